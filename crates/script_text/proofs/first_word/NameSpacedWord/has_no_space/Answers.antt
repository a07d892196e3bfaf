use Rattle.script_text.proofs.OneMeanings.{name_kind}
use Rattle.script_text.proofs.first_word.NameSpacedWord.has_no_space.Goals as goal

pub returns : goal.returns
returns c = name_kind
