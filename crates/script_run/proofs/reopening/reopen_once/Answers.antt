use Rattle.std.proofs.Common.{List, sym, subst}
use Rattle.std.specs.Prelude.{IfOk}
use Rattle.base_kinds.specs.Schema.{SchemaNode}
use Rattle.script_run.specs.inner.ScriptBooks.{IsReopenable, Reopens}
use Rattle.script_run.proofs.reopening.reopen_once.Goals as goal

pub open_left-requires : goal.open_left-requires
open_left-requires c = subst (λ (s : List SchemaNode). IsReopenable s c.args.disk) (sym c.in_ok-copy.ensures.copy) c.requires

pub returns-clause-opens : goal.returns-clause-opens
returns-clause-opens c = subst (λ (s : List SchemaNode). IfOk c.open_left.result (Reopens s c.args.reading c.args.disk)) c.in_ok-copy.ensures.copy c.open_left.ensures.opens

pub returns-clause-fewer : goal.returns-clause-fewer
returns-clause-fewer c = c.open_left.ensures.fewer
