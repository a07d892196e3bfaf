use Rattle.std.proofs.Common.{length}
use Rattle.reference_model.proofs.trees.+put_set.Given as goal

abbrev pub decreases-put_set : goal.decreases-put_set
decreases-put_set l = length l.rows.now
