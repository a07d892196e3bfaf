use Rattle.h2_frame.proofs.Runs.{joined_to_an_end, joined_to_a_part}
use Rattle.h2_frame.proofs.laws.joined_at_a_cut.Goals as goal

pub returns-clause-to_an_end : goal.returns-clause-to_an_end
returns-clause-to_an_end c = joined_to_an_end

pub returns-clause-to_a_part : goal.returns-clause-to_a_part
returns-clause-to_a_part c = joined_to_a_part
