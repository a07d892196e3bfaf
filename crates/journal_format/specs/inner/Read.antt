-- What the steps of the reader of journals answer.
use Rattle.std.specs.Prelude.{◌≡◌, ℕ, List, length}
use Rattle.journal_format.specs.declared.journal.Journal.{Journal}
use Rattle.journal_format.specs.declared.journal.JournalFault.{JournalFault}
use Rattle.journal_format.specs.declared.journal.JournalFault.TheVariants as faults
use Rattle.journal_record.specs.declared.fault.RecordFault.{RecordFault}
use Rattle.journal_record.specs.declared.fault.RecordFault.TheVariants as records
use Rattle.journal_format.specs.Journal.{journal_prefix, IsJournal}

-- the octets are the journal that was read, and its closed gate stands at the place that was told
pub record IsReadFrom (octets : List ℕ) (journal : Journal) : Type 0 where
  pub is : IsJournal octets journal.limits journal.entries
  pub gate_is : journal.gate ≡ length (journal_prefix journal.limits journal.entries)

-- a missing record is damage at its gate
abbrev pub CauseAt : RecordFault → ℕ → JournalFault → Type 0
CauseAt records.NoRecord place fault = fault ≡ faults.Damaged place
CauseAt records.NoMemory place fault = fault ≡ faults.NoMemory
