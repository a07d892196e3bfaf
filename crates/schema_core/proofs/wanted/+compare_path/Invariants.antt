use Rattle.std.proofs.Common.{length}
use Rattle.schema_core.proofs.wanted.+compare_path.Given as goal

abbrev pub decreases-compare_path : goal.decreases-compare_path
decreases-compare_path l = length l.path.now
