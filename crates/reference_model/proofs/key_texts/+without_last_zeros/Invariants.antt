use Rattle.std.proofs.Common.{length}
use Rattle.reference_model.proofs.key_texts.+without_last_zeros.Given as goal

abbrev pub decreases-without_last_zeros : goal.decreases-without_last_zeros
decreases-without_last_zeros l = length l.digits.now
