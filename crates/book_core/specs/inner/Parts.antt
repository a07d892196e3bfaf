-- What one part of a call does that begins with nothing in doubt.
use Rattle.std.specs.Prelude.{◌≡◌, ℕ, List, Option, Result, Ok, Err}
use Rattle.base_kinds.specs.declared.entry.Entry.{Entry}
use Rattle.base_kinds.specs.declared.refusal.Refusal.{Refusal}
use Rattle.base_kinds.specs.declared.refusal.Refusal.TheVariants as refusals
use Rattle.disk_model.specs.Calls.{Fuse, CallsPassed}
use Rattle.disk_model.specs.Content.{Content}
use Rattle.disk_model.specs.Moments.{LeavesNow, LeavesOnly}
use Rattle.commit_journal.specs.Images.{IsJournalOr, IsJournalOfAny}
use Rattle.book_port.specs.Chronicles.{Adds}
use Rattle.book_port.specs.Opened.{IsRun}
use Rattle.book_core.specs.Calls.{FailsAtEntry, append_calls}
use Rattle.book_core.specs.Moments.{IsAttempted}
use Rattle.book_core.specs.Views.{BookView, history_in}

-- the calls of an append of this entry, or none but for a fault
abbrev pub CallsOfPart : {T : Type 0} → Option Entry → List Entry → List Entry → Option Entry → Fuse
    → Fuse → Result T Refusal → Type 0
CallsOfPart appended h left doubt old new (Ok value) = CallsPassed (append_calls appended) old new
CallsOfPart appended h left doubt old new (Err refusals.DiskFault) =
    FailsAtEntry 0 appended h left doubt old new
CallsOfPart appended h left doubt old new (Err refusal) = CallsPassed 0 old new

-- it goes through these histories
pub record GoesOn {D T : Type 0} (told : D → Option Content) (fuse : D → Fuse) (author : ℕ)
    (stages : List (List Entry)) (appended : Option Entry) (result : Result T Refusal)
    (old new : BookView D) : Type 0 where
  pub opened : new.opened ≡ old.opened
  pub adds : Adds author result old.chronicle new.chronicle
  pub moments : LeavesOnly (IsJournalOfAny old.opened.limits stages) (told old.disk) (told new.disk)
  pub images : LeavesNow (IsJournalOr new.opened.limits (history_in new) new.doubt) (told new.disk)
  pub doubt : IsAttempted stages (history_in new) new.doubt
  pub run : IsRun new.opened (history_in new)
  pub made : CallsOfPart appended (history_in old) (history_in new) new.doubt (fuse old.disk)
      (fuse new.disk) result
