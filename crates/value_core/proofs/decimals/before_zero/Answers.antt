use Rattle.std.proofs.Common.{codes}
use Rattle.std.proofs.lemmas.Bool.Decides.{Decides-eqb}
use Rattle.std.proofs.lemmas.Slice.Eq.{strip_suffix_is}
use Rattle.value_core.proofs.decimals.before_zero.Goals as goal

pub returns : goal.returns
returns c = strip_suffix_is Decides-eqb c.args.octets.now (codes ".0") _ c.strip_suffix.ensures.cases
