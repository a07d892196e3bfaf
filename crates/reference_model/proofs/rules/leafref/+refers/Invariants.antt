use Rattle.std.proofs.Common.{length}
use Rattle.reference_model.proofs.rules.leafref.+refers.Given as goal

abbrev pub decreases-refers : goal.decreases-refers
decreases-refers l = length l.rows.now
