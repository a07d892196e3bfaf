use Rattle.h2_frame.proofs.Reading.{states_least}
use Rattle.h2_frame.proofs.laws.least_length.Goals as goal

pub returns : goal.returns
returns c = states_least
