use Rattle.h2_frame.proofs.Runs.{one_more, one_more_to_a_part}
use Rattle.h2_frame.proofs.laws.first_then_rest.Goals as goal

pub returns-clause-one : goal.returns-clause-one
returns-clause-one c = one_more

pub returns-clause-one_to_a_part : goal.returns-clause-one_to_a_part
returns-clause-one_to_a_part c = one_more_to_a_part
