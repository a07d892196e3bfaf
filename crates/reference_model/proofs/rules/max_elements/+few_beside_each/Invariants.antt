use Rattle.std.proofs.Common.{length}
use Rattle.reference_model.proofs.rules.max_elements.+few_beside_each.Given as goal

abbrev pub decreases-few_beside_each : goal.decreases-few_beside_each
decreases-few_beside_each l = length l.paths.now
