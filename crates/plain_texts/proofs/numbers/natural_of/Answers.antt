use Rattle.plain_texts.proofs.Decimals.{natural_is}
use Rattle.plain_texts.proofs.numbers.natural_of.Goals as goal

pub returns-clause-value : goal.returns-clause-value
returns-clause-value c = natural_is c.args.octets.now c.read_natural.result c.read_natural.ensures.some c.read_natural.ensures.small c.read_natural.ensures.none
