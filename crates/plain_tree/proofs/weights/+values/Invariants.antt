use Rattle.std.proofs.Common.{◌≡◌, ◌+◌, take, sum_by}
use Rattle.base_kinds.specs.Records.{counted}
use Rattle.base_kinds.specs.Weights.{value_weight}
use Rattle.plain_tree.proofs.weights.+values.Given as goal

-- those so far are weighed
abbrev pub invariant-add_values-loop-value : goal.invariant-add_values-loop-value
invariant-add_values-loop-value l = l.whole ≡ counted (l.fn.sum + sum_by (λ value. value_weight value + 8) (take l.value-index l.values))
