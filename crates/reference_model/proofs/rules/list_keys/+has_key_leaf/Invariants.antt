use Rattle.std.proofs.Common.{length}
use Rattle.reference_model.proofs.rules.list_keys.+has_key_leaf.Given as goal

abbrev pub decreases-has_key_leaf : goal.decreases-has_key_leaf
decreases-has_key_leaf l = length l.rows.now
