use Rattle.std.proofs.Common.{length}
use Rattle.reference_model.proofs.matching.+matches_keys.Given as goal

abbrev pub decreases-matches_keys : goal.decreases-matches_keys
decreases-matches_keys l = length l.keys.now
