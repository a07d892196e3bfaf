use Rattle.script_text.proofs.OneMeanings.{number_kind}
use Rattle.script_text.proofs.first_word.NumberSpacedWord.has_no_space.Goals as goal

pub returns : goal.returns
returns c = number_kind
