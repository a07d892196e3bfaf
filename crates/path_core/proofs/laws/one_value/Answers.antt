use Rattle.path_core.proofs.ValueTexts.{one_value}
use Rattle.path_core.proofs.laws.one_value.Goals as goal

pub returns : goal.returns
returns c = one_value
