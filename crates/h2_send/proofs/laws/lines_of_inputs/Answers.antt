use Rattle.h2_send.proofs.Rising.{rises, paced, within}
use Rattle.h2_send.proofs.laws.lines_of_inputs.Goals as goal

pub returns-clause-rising : goal.returns-clause-rising
returns-clause-rising c inputs = rises inputs

pub returns-clause-paced : goal.returns-clause-paced
returns-clause-paced c inputs = paced inputs

pub returns-clause-within : goal.returns-clause-within
returns-clause-within c inputs input before s after is = within inputs input before s after is
