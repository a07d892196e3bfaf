use Rattle.value_core.proofs.Parts.{one_decimal}
use Rattle.value_core.proofs.laws.one_decimal.Goals as goal

pub returns : goal.returns
returns c = one_decimal
