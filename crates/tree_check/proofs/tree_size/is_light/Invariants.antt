use Rattle.std.proofs.Common.{◌≡◌, ◌+◌, take, sum_by}
use Rattle.base_kinds.specs.Limits.{most_weight}
use Rattle.base_kinds.specs.Weights.{row_weight}
use Rattle.tree_check.proofs.tree_size.is_light.Given as goal

-- what is left and the rows so far are the limit
abbrev pub invariant-loop-row : goal.invariant-loop-row
invariant-loop-row l = l.left + sum_by row_weight (take l.row-index l.rows) ≡ most_weight
