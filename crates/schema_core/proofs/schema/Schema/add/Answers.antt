use Rattle.std.proofs.Common.{◌≡◌, length, arith, List, ℕ, subst}
use Rattle.std.specs.Prelude.{insert}
use Rattle.std.proofs.lemmas.Grind.{common_steps}
use Rattle.base_kinds.specs.Schema.{SchemaNode}
use Rattle.schema_core.specs.inner.Index.{IsBetween}
use Rattle.schema_core.proofs.IndexLemmas.{kept_then}
use Rattle.schema_core.proofs.schema.Schema.add.Goals as goal

pub invariant_of-self-2 : goal.invariant_of-self-2
invariant_of-self-2 c =
    let nodes = c.self.inside.nodes in
    let order = c.self.inside.order.items in
    let P : List SchemaNode → Type 0 = λ ns. IsBetween ns c.as_slice.result.now c.args.node.names c.gap_of-gap.result c.gap_of-gap.result in
    let Q : List ℕ → Type 0 = λ numbers. IsBetween nodes numbers c.args.node.names c.gap_of-gap.result c.gap_of-gap.result in
    let between = subst Q c.as_slice.ensures.value (subst P c.items.ensures c.gap_of-gap.ensures) in
    let inserted : c.insert.new.self.items ≡ insert order c.gap_of-gap.result (length nodes) = grind (arith, common_steps) in
    kept_then nodes c.args.self.now _ c.args.node order _ _ c.self.invariant between c.self.view_is c.requires.room c.requires.fresh c.requires.parent c.in_ok-push.ensures.ok inserted
