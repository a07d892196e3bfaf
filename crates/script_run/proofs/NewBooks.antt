-- The opening of a journal that was just made, on a disk in memory for which nothing waits.
use Rattle.std.proofs.Common.{◌≡◌, ℕ, ◌+◌, List, [], length, Option, Some, sym, ap, ◌∙◌, subst}
use Rattle.base_kinds.specs.declared.entry.Entry.{Entry}
use Rattle.base_kinds.specs.declared.entry.Limits.{Limits}
use Rattle.base_kinds.specs.Bases.{IsSound}
use Rattle.base_kinds.specs.History.{world_of}
use Rattle.base_kinds.specs.Schema.{SchemaNode}
use Rattle.history_laws.proofs.SoundTrees.{no_rows_are_sound}
use Rattle.disk_model.specs.Arming.{unarmed, arming_after_calls}
use Rattle.disk_model.specs.Calls.{CallsPassed}
use Rattle.disk_model.specs.Content.{Content}
use Rattle.disk_model.specs.Images.{IsImage}
use Rattle.disk_model.specs.Moments.{Leaves}
use Rattle.disk_model.proofs.Images.{image_self}
use Rattle.memory_disks.specs.Fuses.{FuseView, fuse_of}
use Rattle.journal_format.specs.Journal.{IsJournal}
use Rattle.journal_format.proofs.Runs.{one_history, not_both}
use Rattle.commit_journal.specs.Openings.{opening_calls}
use Rattle.commit_journal.specs.Writes.{Creates}
use Rattle.book_core.specs.Openings.{IsReady, IsUnfit, IsDamagedAt, restart_calls}
use Rattle.book_core.specs.Views.{BookView}
use Rattle.book_port.specs.Chronicles.{history_of}
use Rattle.book_port.specs.Opened.{Opened, reopened}
use Rattle.book_port.proofs.Chronicled.{history_of_entered}
use Rattle.script_run.specs.inner.ScriptBooks.{IsNew}
use Rattle.script_run.proofs.Turns.{passed_of, stays_unarmed}

abbrev told : FuseView → Option Content
told disk = Some disk.content

abbrev faults : FuseView → ℕ
faults disk = disk.faults

-- a read of it gives the journal
pub made_journal : (limits : Limits) (old new : Content) → Creates limits old new → Leaves (λ octets. IsJournal octets limits []) new.mask → IsJournal new.seen limits []
made_journal limits old new creates leaves = leaves new.seen (subst (λ m. IsImage m new.seen) (sym creates.put.mask_is) (image_self new.seen))

-- calls that passed leave it unarmed
pub still_unarmed : (calls : ℕ) (old new : FuseView) → old.arming ≡ unarmed → CallsPassed calls (fuse_of old) (fuse_of new) → new.arming ≡ unarmed
still_unarmed calls old new is passed =
    (passed_of calls old.arming new.arming old.starved new.starved passed).left ∙ ap (arming_after_calls calls) is ∙ stays_unarmed calls

module _ (schema : List SchemaNode) (limits : Limits) (disk : FuseView) (journal : IsJournal disk.content.seen limits []) where
  pub new_book : (book : BookView FuseView) → disk.arming ≡ unarmed → IsReady told faults fuse_of disk schema 0 book → IsNew schema limits book
  new_book book is ready =
      let same = one_history disk.content.seen book.opened.limits limits ready.found [] ready.has_journal.journal journal in
      record {
        schema_is = ap (λ (o : Opened). o.schema) ready.opened;
        limits_are = same.0;
        history = ap history_of ready.chronicle ∙ history_of_entered (reopened ready.found 0) ∙ ap (λ h. reopened h 0) same.1;
        doubt = ready.no_doubt;
        arming = still_unarmed (opening_calls (length disk.content.seen) + restart_calls ready.found) disk book.disk is ready.calls;
      }

  pub never_damaged : (place : ℕ) (left : FuseView) → IsDamagedAt told faults fuse_of disk schema 0 place left → ⊥
  never_damaged place left is = not_both disk.content.seen limits [] place journal is.damaged.damaged

  pub never_unfit : (left : FuseView) → IsUnfit told faults fuse_of disk schema 0 left → ⊥
  never_unfit left is =
      let same = one_history disk.content.seen is.limits limits is.found [] is.has_journal.journal journal in
      is.unsound (subst (λ (h : List Entry). IsSound schema (world_of (reopened h 0)).tree) (sym same.1) (no_rows_are_sound schema))
