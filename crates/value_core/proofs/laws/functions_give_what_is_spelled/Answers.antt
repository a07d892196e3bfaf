use Rattle.value_core.proofs.IntegersRead.{naturals_by_function, integers_by_function}
use Rattle.value_core.proofs.DecimalsRead.{decimals_by_function}
use Rattle.value_core.proofs.KeysRead.{keys_by_function}
use Rattle.value_core.proofs.laws.functions_give_what_is_spelled.Goals as goal

pub returns-clause-naturals : goal.returns-clause-naturals
returns-clause-naturals c = naturals_by_function

pub returns-clause-integers : goal.returns-clause-integers
returns-clause-integers c = integers_by_function

pub returns-clause-decimals : goal.returns-clause-decimals
returns-clause-decimals c = decimals_by_function

pub returns-clause-keys : goal.returns-clause-keys
returns-clause-keys c = keys_by_function
