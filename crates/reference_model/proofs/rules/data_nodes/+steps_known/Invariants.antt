use Rattle.std.proofs.Common.{length, ◌-◌}
use Rattle.reference_model.proofs.rules.data_nodes.+steps_known.Given as goal

abbrev pub decreases-steps_known : goal.decreases-steps_known
decreases-steps_known l = length l.path.now - l.n
