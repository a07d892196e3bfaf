use Rattle.std.proofs.Common.{length}
use Rattle.reference_model.proofs.rules.mandatory.+stands_below_each_of.Given as goal

abbrev pub decreases-stands_below_each_of : goal.decreases-stands_below_each_of
decreases-stands_below_each_of l = length l.rows.now
