use Rattle.std.proofs.Common.{◌≡◌, true, take}
use Rattle.base_kinds.specs.Valid.{few_values}
use Rattle.tree_check.proofs.max_elements.few_values.Given as goal

abbrev pub invariant-loop-row : goal.invariant-loop-row
invariant-loop-row l = few_values l.most (take l.row-index l.rows) l.names ≡ true
