use Rattle.program.proofs.WordLists.{one_command}
use Rattle.program.proofs.laws.words_give_one_command.Goals as goal

pub returns : goal.returns
returns c = one_command
