use Rattle.script_text.proofs.Spaceless.{path_kind}
use Rattle.script_text.proofs.first_word.PathTextSpacedWord.has_no_space.Goals as goal

pub returns : goal.returns
returns c = path_kind
