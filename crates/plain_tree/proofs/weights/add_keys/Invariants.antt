use Rattle.std.proofs.Common.{◌≡◌, ◌+◌, take, sum_by}
use Rattle.base_kinds.specs.Records.{counted}
use Rattle.base_kinds.specs.Weights.{key_weight}
use Rattle.plain_tree.proofs.weights.add_keys.Given as goal

-- the keys so far are weighed
abbrev pub invariant-loop-key : goal.invariant-loop-key
invariant-loop-key l = l.whole ≡ counted (l.fn.sum + sum_by key_weight (take l.key-index l.key-items))
