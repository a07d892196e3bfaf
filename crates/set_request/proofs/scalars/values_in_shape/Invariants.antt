use Rattle.std.proofs.Common.{◌≡◌, [], drop}
use Rattle.set_request.specs.Scalars.{values_in_shape}
use Rattle.set_request.proofs.scalars.values_in_shape.Given as goal

-- what is left, behind the values so far, gives what all give
abbrev pub invariant-loop-scalar : goal.invariant-loop-scalar
invariant-loop-scalar l = values_in_shape l.shape l.done (drop l.scalar-index l.scalars) ≡ values_in_shape l.shape [] l.scalars
