use Rattle.std.proofs.Common.{length}
use Rattle.reference_model.proofs.rules.mandatory.+mandatory_present.Given as goal

abbrev pub decreases-mandatory_present : goal.decreases-mandatory_present
decreases-mandatory_present l = length l.schema.now
