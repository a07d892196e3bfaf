use Rattle.script_text.proofs.Spaceless.{id_kind}
use Rattle.script_text.proofs.first_word.IdSpacedWord.has_no_space.Goals as goal

pub returns : goal.returns
returns c = id_kind
