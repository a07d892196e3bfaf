use Rattle.std.proofs.lemmas.Bool.Decides.{Decides-eqb}
use Rattle.std.proofs.lemmas.Slice.Eq.{strip_suffix_is}
use Rattle.schema_text.proofs.octets.before.Goals as goal

pub returns : goal.returns
returns c = strip_suffix_is Decides-eqb c.args.octets.now c.args.end.now _ c.strip_suffix.ensures.cases
