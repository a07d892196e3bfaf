use Rattle.std.proofs.Common.{◌≡◌, ◌+◌, take, sum_by}
use Rattle.base_kinds.specs.Records.{counted}
use Rattle.base_kinds.specs.Weights.{elem_weight}
use Rattle.plain_tree.proofs.weights.add_path.Given as goal

-- the elements so far are weighed
abbrev pub invariant-loop-elem : goal.invariant-loop-elem
invariant-loop-elem l = l.whole ≡ counted (l.fn.sum + sum_by elem_weight (take l.elem-index l.elem-items))
