use Rattle.value_core.proofs.DecimalTexts.{read_back}
use Rattle.value_core.proofs.laws.decimals_read_back.Goals as goal

pub returns : goal.returns
returns c = read_back
