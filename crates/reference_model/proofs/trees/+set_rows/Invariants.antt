use Rattle.std.proofs.Common.{length}
use Rattle.reference_model.proofs.trees.+set_rows.Given as goal

abbrev pub decreases-set_rows : goal.decreases-set_rows
decreases-set_rows l = length l.rows.now
