use Rattle.std.proofs.Common.{◌≡◌, ◌+◌, take, sum_by}
use Rattle.base_kinds.specs.Records.{counted}
use Rattle.base_kinds.specs.Weights.{row_weight}
use Rattle.plain_tree.proofs.weights.add_rows.Given as goal

-- the rows so far are weighed
abbrev pub invariant-loop-row : goal.invariant-loop-row
invariant-loop-row l = l.whole ≡ counted (l.fn.sum + sum_by row_weight (take l.row-index l.rows))
