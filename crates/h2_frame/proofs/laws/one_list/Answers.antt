use Rattle.h2_frame.proofs.Runs.{same_to_an_end, same_to_a_part, to_an_end}
use Rattle.h2_frame.proofs.laws.one_list.Goals as goal

pub returns-clause-to_an_end : goal.returns-clause-to_an_end
returns-clause-to_an_end c = same_to_an_end

pub returns-clause-to_a_part : goal.returns-clause-to_a_part
returns-clause-to_a_part c = same_to_a_part

pub returns-clause-is_end : goal.returns-clause-is_end
returns-clause-is_end c = to_an_end
