use Rattle.std.proofs.Common.{length}
use Rattle.reference_model.proofs.worlds.+world_from.Given as goal

abbrev pub decreases-world_from : goal.decreases-world_from
decreases-world_from l = length l.entries.now
