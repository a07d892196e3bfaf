use Rattle.std.proofs.Common.{length}
use Rattle.reference_model.proofs.rules.max_elements.+max_elements_hold.Given as goal

abbrev pub decreases-max_elements_hold : goal.decreases-max_elements_hold
decreases-max_elements_hold l = length l.schema.now
