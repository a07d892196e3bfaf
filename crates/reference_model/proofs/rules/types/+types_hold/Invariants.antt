use Rattle.std.proofs.Common.{length}
use Rattle.reference_model.proofs.rules.types.+types_hold.Given as goal

abbrev pub decreases-types_hold : goal.decreases-types_hold
decreases-types_hold l = length l.rows.now
