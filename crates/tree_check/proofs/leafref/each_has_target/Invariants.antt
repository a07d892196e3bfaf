use Rattle.std.proofs.Common.{◌≡◌, take, true}
use Rattle.std.specs.List.{list_all}
use Rattle.tree_check.specs.inner.LeafrefTargets.{row_has_target}
use Rattle.tree_check.proofs.leafref.each_has_target.Given as goal

abbrev pub invariant-loop-row : goal.invariant-loop-row
invariant-loop-row l = list_all (row_has_target l.schema l.targets) (take l.row-index l.rows) ≡ true
