use Rattle.std.proofs.Common.{length}
use Rattle.reference_model.proofs.trees.+put_uncovered.Given as goal

abbrev pub decreases-put_uncovered : goal.decreases-put_uncovered
decreases-put_uncovered l = length l.rows.now
