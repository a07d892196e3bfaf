use Rattle.h2_send.proofs.Sayable.{sayable}
use Rattle.h2_send.proofs.laws.streams_that_something_can_be_said_on.Goals as goal

pub returns : goal.returns
returns c stream inputs = sayable stream inputs
