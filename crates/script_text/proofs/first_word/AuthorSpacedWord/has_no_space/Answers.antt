use Rattle.script_text.proofs.OneMeanings.{author_kind}
use Rattle.script_text.proofs.first_word.AuthorSpacedWord.has_no_space.Goals as goal

pub returns : goal.returns
returns c = author_kind
