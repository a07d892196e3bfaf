use Rattle.h2_frame.proofs.Runs.{cut_to_an_end, cut_to_a_part}
use Rattle.h2_frame.proofs.laws.cut_anywhere.Goals as goal

pub returns-clause-to_an_end : goal.returns-clause-to_an_end
returns-clause-to_an_end c = cut_to_an_end

pub returns-clause-to_a_part : goal.returns-clause-to_a_part
returns-clause-to_a_part c = cut_to_a_part
