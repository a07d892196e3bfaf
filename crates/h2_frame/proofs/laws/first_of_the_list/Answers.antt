use Rattle.h2_frame.proofs.Runs.{part_alone, one_taken, long_alone, none_too_long}
use Rattle.h2_frame.proofs.laws.first_of_the_list.Goals as goal

pub returns-clause-none : goal.returns-clause-none
returns-clause-none c = part_alone

pub returns-clause-one : goal.returns-clause-one
returns-clause-one c = one_taken

pub returns-clause-too_long : goal.returns-clause-too_long
returns-clause-too_long c = long_alone

pub returns-clause-no_part : goal.returns-clause-no_part
returns-clause-no_part c = none_too_long
