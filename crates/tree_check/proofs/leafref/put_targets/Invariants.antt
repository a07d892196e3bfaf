use Rattle.std.proofs.Common.{take}
use Rattle.tree_check.specs.inner.LeafrefTargets.{AreTargets}
use Rattle.tree_check.proofs.leafref.put_targets.Given as goal

abbrev pub invariant-loop-row : goal.invariant-loop-row
invariant-loop-row l = AreTargets l.schema (take l.row-index l.rows) l.targets.items
