use Rattle.value_core.proofs.IntegersRead.{integer_is}
use Rattle.value_core.proofs.numbers.read_integer.Goals as goal

pub returns-clause-value : goal.returns-clause-value
returns-clause-value c = integer_is c.args.octets.now c.integer_in.result c.integer_in.ensures.some c.integer_in.ensures.held c.integer_in.ensures.none
