use Rattle.std.proofs.Common.{◌+◌, ◌*◌, length}
use Rattle.reference_model.proofs.matching.+matching.Given as goal

-- both get shorter, and a step to the rests of a path comes before the one back
abbrev pub decreases-matches_elems : goal.decreases-matches_elems
decreases-matches_elems l = 2 * (length l.pattern.now + length l.path.now)

abbrev pub decreases-matches_some_rest : goal.decreases-matches_some_rest
decreases-matches_some_rest l = 2 * (length l.pattern.now + length l.path.now) + 1
