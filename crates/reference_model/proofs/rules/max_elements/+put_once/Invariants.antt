use Rattle.std.proofs.Common.{length}
use Rattle.reference_model.proofs.rules.max_elements.+put_once.Given as goal

abbrev pub decreases-put_once : goal.decreases-put_once
decreases-put_once l = length l.paths.now
