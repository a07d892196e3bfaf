use Rattle.std.proofs.Common.{◌≡◌, ◌+◌, take, sum_by}
use Rattle.base_kinds.specs.Weights.{value_weight}
use Rattle.tree_check.proofs.tree_size.+value_weight.Given as goal

abbrev pub invariant-after_values-loop-value : goal.invariant-after_values-loop-value
invariant-after_values-loop-value l = l.left + sum_by (λ value. value_weight value + 8) (take l.value-index l.values) ≡ l.fn.left
