use Rattle.h2_send.proofs.StreamFrames.{answered_on}
use Rattle.h2_send.proofs.laws.frames_of_streams.Goals as goal

pub returns : goal.returns
returns c stream inputs are once_only = answered_on stream inputs are once_only
