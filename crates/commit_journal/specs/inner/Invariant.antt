-- What a ledger keeps true.
use Rattle.std.specs.Prelude.{◌≡◌, ℕ, List, Option, Some, None}
use Rattle.base_kinds.specs.declared.entry.Entry.{Entry}
use Rattle.base_kinds.specs.declared.entry.Limits.{Limits}
use Rattle.disk_model.specs.Content.{Content, Tells}
use Rattle.journal_record.specs.Representable.{IsRepresentable}
use Rattle.journal_format.specs.Histories.{MayFollow, IsJournalHistory}
use Rattle.journal_format.specs.Journal.{AreRepresentable}
use Rattle.commit_journal.specs.Writes.{gate_place}
use Rattle.commit_journal.specs.inner.Masks.{Holds}

-- the attempt may stand behind the history
abbrev pub AttemptMayFollow : Limits → List Entry → Option Entry → Type 0
AttemptMayFollow limits h None = Unit {0}
AttemptMayFollow limits h (Some attempt) = MayFollow limits h attempt × IsRepresentable attempt

module _ (told : Option Content) (gate : ℕ) (limits : Limits) where
  pub record IsLedger (h : List Entry) (doubt : Option Entry) : Type 0 where
    pub gate_is : gate ≡ gate_place limits h
    pub legal : IsJournalHistory limits h
    pub kept : AreRepresentable h
    pub follows : AttemptMayFollow limits h doubt
    pub content : Tells told (Holds limits h doubt)
