-- What a call of a book does to its disk, by the histories that it goes through and the entry that is
-- asked for, where there is one.
use Rattle.std.specs.Prelude.{◌≡◌, ℕ, List, Option, None, Result, IsErrOf}
use Rattle.base_kinds.specs.declared.entry.Entry.{Entry}
use Rattle.base_kinds.specs.declared.refusal.Refusal.{Refusal}
use Rattle.base_kinds.specs.declared.refusal.Refusal.TheVariants as refusals
use Rattle.environment.specs.Faults.{Rose}
use Rattle.disk_model.specs.Calls.{Fuse}
use Rattle.disk_model.specs.Content.{Content}
use Rattle.disk_model.specs.Moments.{LeavesNow}
use Rattle.commit_journal.specs.Images.{IsJournalOr}
use Rattle.book_core.specs.Calls.{CallsFor}
use Rattle.book_core.specs.Moments.{GoesThrough, IsDoubted}
use Rattle.book_core.specs.Views.{BookView, history_in}

pub record UsesDisk {D T : Type 0} (told : D → Option Content) (faults : D → ℕ) (fuse : D → Fuse)
    (now : ℕ) (stages : List (List Entry)) (asked : Option Entry) (result : Result T Refusal)
    (old new : BookView D) : Type 0 where
  pub settled : (IsErrOf result refusals.DiskFault → ⊥) → (IsErrOf result refusals.NoMemory → ⊥)
      → new.doubt ≡ None
  pub doubt : IsDoubted stages (history_in old) old.doubt (history_in new) new.doubt
  pub any_moment : GoesThrough old.opened.limits (history_in old) old.doubt stages new.doubt
      (told old.disk) (told new.disk)
  pub images : LeavesNow (IsJournalOr new.opened.limits (history_in new) new.doubt) (told new.disk)
  pub fault : IsErrOf result refusals.DiskFault → Rose (faults old.disk) (faults new.disk)
  pub quiet : (IsErrOf result refusals.DiskFault → ⊥) → faults new.disk ≡ faults old.disk
  pub calls : CallsFor old.doubt (history_in old) now asked (history_in new) new.doubt
      (fuse old.disk) (fuse new.disk) result
