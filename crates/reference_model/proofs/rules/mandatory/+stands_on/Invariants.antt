use Rattle.std.proofs.Common.{length, ◌-◌}
use Rattle.reference_model.proofs.rules.mandatory.+stands_on.Given as goal

abbrev pub decreases-stands_on : goal.decreases-stands_on
decreases-stands_on l = length l.path.now - l.n
