use Rattle.h2_frame.proofs.Spelling.{read_again}
use Rattle.h2_frame.proofs.laws.reads_back.Goals as goal

pub returns : goal.returns
returns c = read_again
