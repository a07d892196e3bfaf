use Rattle.std.proofs.Common.{length}
use Rattle.reference_model.proofs.rules.max_elements.+put_parents.Given as goal

abbrev pub decreases-put_parents : goal.decreases-put_parents
decreases-put_parents l = length l.elems.now
