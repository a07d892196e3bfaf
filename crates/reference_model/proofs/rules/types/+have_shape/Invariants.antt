use Rattle.std.proofs.Common.{length}
use Rattle.reference_model.proofs.rules.types.+have_shape.Given as goal

abbrev pub decreases-have_shape : goal.decreases-have_shape
decreases-have_shape l = length l.values.now
