use Rattle.std.proofs.Common.{length}
use Rattle.reference_model.proofs.rules.max_elements.+put_named.Given as goal

abbrev pub decreases-put_named : goal.decreases-put_named
decreases-put_named l = length l.instances.now
