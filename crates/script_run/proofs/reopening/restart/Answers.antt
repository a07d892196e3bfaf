use Rattle.std.proofs.Common.{◌≡◌, List, Bool, Result, Ok, Err, sym, ◌∙◌, subst}
use Rattle.std.specs.Prelude.{ℕ, IfOk}
use Rattle.base_kinds.specs.Schema.{SchemaNode}
use Rattle.book_core.specs.Views.{BookView}
use Rattle.memory_disks.specs.Fuses.{FuseView}
use Rattle.script_run.specs.inner.ScriptBooks.{IsLeftByStop, IsReopenable, RestartsBook, RestartsOn, book_if}
use Rattle.script_run.proofs.Restarting.{restarts_book}
use Rattle.script_run.proofs.reopening.restart.Goals as goal

pub reopen_into-requires-clause-reopenable : goal.reopen_into-requires-clause-reopenable
reopen_into-requires-clause-reopenable c =
    let schema : c.in_ok-schema.schema ≡ c.args.book.now.opened.schema = c.in_ok-schema.ensures ∙ c.schema.ensures in
    subst (λ (s : List SchemaNode). IsReopenable s c.left_by_stop-disk.result) (sym schema) c.left_by_stop-disk.ensures.disk.reopenable

restarts : {E : Type 0} (schema : List SchemaNode) (now : ℕ) (old new : BookView FuseView) (next : FuseView) (before after : List ℕ) (answer : Result Bool E) → schema ≡ old.opened.schema → IsLeftByStop old next
    → IfOk answer (λ goes_on. RestartsOn schema now next before after (book_if goes_on new)) → IfOk answer (RestartsBook now old new before after)
restarts schema now old new next before after (Ok goes_on) is left done =
    restarts_book now old new next before after goes_on left (subst (λ (s : List SchemaNode). RestartsOn s now next before after (book_if goes_on new)) is done)
restarts schema now old new next before after (Err fault) is left done = tt

pub returns-clause-restarts : goal.returns-clause-restarts
returns-clause-restarts c = restarts _ _ _ _ _ _ _ _ (c.in_ok-schema.ensures ∙ c.schema.ensures) c.left_by_stop-disk.ensures.disk c.reopen_into.ensures.restarts
