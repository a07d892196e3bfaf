use Rattle.std.proofs.Common.{length, ◌-◌}
use Rattle.reference_model.proofs.rules.list_keys.+steps_keyed.Given as goal

abbrev pub decreases-steps_keyed : goal.decreases-steps_keyed
decreases-steps_keyed l = length l.path.now - l.n
