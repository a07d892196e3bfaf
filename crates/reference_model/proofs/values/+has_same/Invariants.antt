use Rattle.std.proofs.Common.{length}
use Rattle.reference_model.proofs.values.+has_same.Given as goal

abbrev pub decreases-has_same : goal.decreases-has_same
decreases-has_same l = length l.others.now
