-- What a book keeps true of its parts.
use Rattle.std.specs.Prelude.{◌≡◌, ℕ, ◌+◌, ◌≤◌, List, Option, length}
use Rattle.base_kinds.specs.Limits.{closing_octets}
use Rattle.disk_model.specs.Content.{Content}
use Rattle.disk_model.specs.Moments.{LeavesNow}
use Rattle.journal_format.specs.Histories.{IsJournalHistory}
use Rattle.commit_journal.specs.Images.{IsJournalOr}
use Rattle.commit_journal.specs.Ledgers.{LedgerView}
use Rattle.commit_core.specs.CoreView.{CoreView}
use Rattle.book_port.specs.declared.happening.Happening.{Happening}
use Rattle.book_port.specs.Chronicles.{history_of, marks_of}
use Rattle.book_port.specs.Opened.{Opened, IsRun}
use Rattle.book_core.specs.Views.{most_marks}

-- by what the core showed when the book was opened, and how often the disk had failed by then
abbrev pub opened_with : CoreView → ℕ → Opened
opened_with core faults = record {
  schema = core.schema;
  limits = core.limits;
  base = core.entries;
  faults = faults;
}

-- the core judges by the same
pub record KeepsRules (old new : CoreView) : Type 0 where
  pub schema : new.schema ≡ old.schema
  pub limits : new.limits ≡ old.limits

pub record IsBook {D : Type 0} (told : D → Option Content) (faults : D → ℕ) (opened : Opened)
    (chronicle : List Happening) (core : CoreView) (ledger : LedgerView D)
    (marks : ℕ) : Type 0 where
  pub schema_is : core.schema ≡ opened.schema
  pub limits_are : core.limits ≡ opened.limits
  pub entries_are : core.entries ≡ history_of chronicle
  pub ledger_limits : ledger.limits ≡ opened.limits
  pub ledger_history : ledger.history ≡ history_of chronicle
  pub run : IsRun opened (history_of chronicle)
  pub journal : IsJournalHistory opened.limits (history_of chronicle)
  pub images : LeavesNow (IsJournalOr opened.limits (history_of chronicle) ledger.doubt)
      (told ledger.disk)
  pub counted : marks ≡ length (marks_of chronicle)
  pub few : marks ≤ most_marks
  pub risen : opened.faults + marks ≤ faults ledger.disk
  -- an entry that closes a trial can be appended without taking memory
  pub room : closing_octets ≤ ledger.room
