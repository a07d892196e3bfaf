use Rattle.h2_events.proofs.Orders.{one_goes_together as together}
use Rattle.h2_events.proofs.laws.one_goes_together.Goals as goal

pub returns : goal.returns
returns c = together
