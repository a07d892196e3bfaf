use Rattle.std.proofs.Common.{length}
use Rattle.reference_model.proofs.rules.list_keys.+are_keyed.Given as goal

abbrev pub decreases-are_keyed : goal.decreases-are_keyed
decreases-are_keyed l = length l.rows.now
