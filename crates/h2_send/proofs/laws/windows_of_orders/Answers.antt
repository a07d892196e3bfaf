use Rattle.h2_send.proofs.OrderWindows.{connection_keeps, stream_keeps, order_paced}
use Rattle.h2_send.proofs.laws.windows_of_orders.Goals as goal

pub returns-clause-connection : goal.returns-clause-connection
returns-clause-connection c inputs = connection_keeps inputs

pub returns-clause-streams : goal.returns-clause-streams
returns-clause-streams c stream inputs some once_only = stream_keeps stream inputs some once_only

pub returns-clause-paced : goal.returns-clause-paced
returns-clause-paced c stream inputs some once_only waits = order_paced stream inputs some once_only waits
