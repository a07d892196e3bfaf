use Rattle.value_core.proofs.Keys.{one_value}
use Rattle.value_core.proofs.laws.one_value_a_key.Goals as goal

pub returns : goal.returns
returns c = one_value
