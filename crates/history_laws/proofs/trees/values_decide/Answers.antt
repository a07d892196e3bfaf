use Rattle.history_laws.proofs.Values.{values_decide}
use Rattle.history_laws.proofs.trees.values_decide.Goals as goal

pub returns : goal.returns
returns c = values_decide
