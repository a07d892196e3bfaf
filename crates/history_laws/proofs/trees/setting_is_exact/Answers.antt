use Rattle.history_laws.proofs.Values.{sets_value, keeps_other_values, value_at_sets}
use Rattle.history_laws.proofs.trees.setting_is_exact.Goals as goal

pub returns : goal.returns
returns c = record { here = sets_value; elsewhere = keeps_other_values; all = value_at_sets }
