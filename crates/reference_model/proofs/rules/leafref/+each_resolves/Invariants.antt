use Rattle.std.proofs.Common.{length}
use Rattle.reference_model.proofs.rules.leafref.+each_resolves.Given as goal

abbrev pub decreases-each_resolves : goal.decreases-each_resolves
decreases-each_resolves l = length l.rows.now
