use Rattle.std.proofs.Common.{length}
use Rattle.reference_model.proofs.rules.max_elements.+put_instances.Given as goal

abbrev pub decreases-put_instances : goal.decreases-put_instances
decreases-put_instances l = length l.rows.now
