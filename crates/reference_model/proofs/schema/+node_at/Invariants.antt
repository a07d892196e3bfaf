use Rattle.std.proofs.Common.{length}
use Rattle.reference_model.proofs.schema.+node_at.Given as goal

abbrev pub decreases-node_at : goal.decreases-node_at
decreases-node_at l = length l.schema.now
