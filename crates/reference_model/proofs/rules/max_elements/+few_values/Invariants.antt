use Rattle.std.proofs.Common.{length}
use Rattle.reference_model.proofs.rules.max_elements.+few_values.Given as goal

abbrev pub decreases-few_values : goal.decreases-few_values
decreases-few_values l = length l.rows.now
