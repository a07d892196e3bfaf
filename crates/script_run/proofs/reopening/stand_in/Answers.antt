use Rattle.std.proofs.Common.{List, Result, Ok, Err, sym, subst}
use Rattle.std.specs.Prelude.{IfOk}
use Rattle.base_kinds.specs.Schema.{SchemaNode}
use Rattle.base_kinds.specs.declared.entry.Limits.{Limits}
use Rattle.memory_disks.specs.Fuses.{FuseView}
use Rattle.book_core.specs.Views.{BookView, history_in}
use Rattle.book_core.specs.laws.DoubtLaws.{IsRunWith}
use Rattle.script_run.specs.inner.ScriptBooks.{IsNew, MayStand}
use Rattle.script_run.proofs.reopening.stand_in.Goals as goal

stands : {E : Type 0} (schema : List SchemaNode) (limits : Limits) (made : Result (BookView FuseView) E) → IfOk made (IsNew schema limits) → IfOk made MayStand
stands schema limits (Ok book) new = subst (IsRunWith book.opened (history_in book)) (sym new.doubt) tt
stands schema limits (Err fault) none = tt

pub returns : goal.returns
returns c = stands _ _ c.new_book.result c.new_book.ensures
