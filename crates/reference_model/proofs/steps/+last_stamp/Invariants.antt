use Rattle.std.proofs.Common.{length}
use Rattle.reference_model.proofs.steps.+last_stamp.Given as goal

abbrev pub decreases-last_stamp : goal.decreases-last_stamp
decreases-last_stamp l = length l.entries.now
