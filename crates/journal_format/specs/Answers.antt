-- What the reader of journals answers.
use Rattle.std.specs.Prelude.{◌≡◌, ℕ, List, Result, Ok, Err}
use Rattle.base_kinds.specs.declared.entry.Entry.{Entry}
use Rattle.base_kinds.specs.declared.entry.Limits.{Limits}
use Rattle.journal_format.specs.declared.journal.Journal.{Journal}
use Rattle.journal_format.specs.declared.journal.JournalFault.{JournalFault}
use Rattle.journal_format.specs.declared.journal.JournalFault.TheVariants as faults
use Rattle.journal_format.specs.Journal.{IsDamaged}

-- the octets are damaged at the place that was told; of want of memory nothing is said
abbrev pub IsCauseOf : JournalFault → List ℕ → Type 0
IsCauseOf (faults.Damaged place) octets = IsDamaged octets place
IsCauseOf faults.NoMemory octets = Unit {0}

-- just this is answered, unless memory ran out
abbrev pub GivesJournal : Limits → List Entry → Result Journal JournalFault → Type 0
GivesJournal limits h (Ok journal) = (journal.limits ≡ limits) × (journal.entries ≡ h)
GivesJournal limits h (Err (faults.Damaged place)) = ⊥
GivesJournal limits h (Err faults.NoMemory) = Unit {0}

abbrev pub GivesDamage : ℕ → Result Journal JournalFault → Type 0
GivesDamage place (Ok journal) = ⊥
GivesDamage place (Err (faults.Damaged other)) = other ≡ place
GivesDamage place (Err faults.NoMemory) = Unit {0}
