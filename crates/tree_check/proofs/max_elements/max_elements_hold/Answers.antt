use Rattle.std.proofs.Common.{sym, ◌∙◌}
use Rattle.base_kinds.specs.Valid.{node_in_maximum}
use Rattle.tree_check.proofs.Nodes.{holds_so_far}
use Rattle.tree_check.proofs.max_elements.max_elements_hold.Goals as goal

pub loop-number-preserved : goal.loop-number-preserved
loop-number-preserved c = holds_so_far (node_in_maximum c.args.rows.now) c.args.schema.now c.loop-number.number c.node.result.now c.node.ensures (sym c.node_in_maximum.ensures ∙ c.if-not-node_in_maximum.false) c.loop-number.invariant
