use Rattle.std.proofs.Common.{length}
use Rattle.reference_model.proofs.rules.max_elements.+few_below.Given as goal

abbrev pub decreases-few_below : goal.decreases-few_below
decreases-few_below l = length l.paths.now
