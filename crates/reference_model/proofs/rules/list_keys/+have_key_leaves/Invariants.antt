use Rattle.std.proofs.Common.{length}
use Rattle.reference_model.proofs.rules.list_keys.+have_key_leaves.Given as goal

abbrev pub decreases-have_key_leaves : goal.decreases-have_key_leaves
decreases-have_key_leaves l = length l.keys.now
