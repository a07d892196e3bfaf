use Rattle.history_laws.proofs.Values.{value_at_op, value_at_effect}
use Rattle.history_laws.proofs.trees.operations_act_by_path.Goals as goal

pub returns : goal.returns
returns c = record { one = value_at_op; all = value_at_effect }
