use Rattle.std.proofs.Common.{◌≡◌, ◌+◌, take, sum_by}
use Rattle.base_kinds.specs.Weights.{key_weight}
use Rattle.tree_check.proofs.tree_size.after_keys.Given as goal

abbrev pub invariant-loop-key : goal.invariant-loop-key
invariant-loop-key l = l.left + sum_by key_weight (take l.key-index l.keys) ≡ l.fn.left
