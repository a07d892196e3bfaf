use Rattle.history_laws.proofs.Setting.{rising_set, rising_sets}
use Rattle.history_laws.proofs.Effects.{rising_op, rising_effect}
use Rattle.history_laws.proofs.trees.rows_stay_rising.Goals as goal

pub returns : goal.returns
returns c = record { one = rising_set; all = rising_sets; operation = rising_op; effect = rising_effect }
