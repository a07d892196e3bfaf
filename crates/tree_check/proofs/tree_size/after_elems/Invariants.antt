use Rattle.std.proofs.Common.{◌≡◌, ◌+◌, take, sum_by}
use Rattle.base_kinds.specs.Weights.{elem_weight}
use Rattle.tree_check.proofs.tree_size.after_elems.Given as goal

abbrev pub invariant-loop-elem : goal.invariant-loop-elem
invariant-loop-elem l = l.left + sum_by elem_weight (take l.elem-index l.elems) ≡ l.fn.left
