use Rattle.h2_send.specs.Lines.{first_line}
use Rattle.h2_send.proofs.Closing.{line_after_one}
use Rattle.h2_send.proofs.laws.lines_go_on.Goals as goal

pub returns : goal.returns
returns c inputs input = line_after_one first_line inputs input
