use Rattle.std.proofs.Common.{length}
use Rattle.schema_text.proofs.references.+has_key_leaves.Given as goal

abbrev pub decreases-has_key_leaves : goal.decreases-has_key_leaves
decreases-has_key_leaves l = length l.keys.now
