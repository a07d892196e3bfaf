use Rattle.std.proofs.Common.{◌≡◌, true, take}
use Rattle.std.specs.List.{list_all}
use Rattle.base_kinds.specs.Values.{has_shape}
use Rattle.tree_check.proofs.types.have_shape.Given as goal

abbrev pub invariant-loop-value : goal.invariant-loop-value
invariant-loop-value l = list_all (has_shape l.shape) (take l.value-index l.values) ≡ true
