use Rattle.std.proofs.Common.{length}
use Rattle.reference_model.proofs.schema.+has_path.Given as goal

abbrev pub decreases-has_path : goal.decreases-has_path
decreases-has_path l = length l.names.now
