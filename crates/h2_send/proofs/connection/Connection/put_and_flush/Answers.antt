use Rattle.std.proofs.Common.{refl}
use Rattle.h2_windows.proofs.Fronts.{writes_behind}
use Rattle.h2_send.proofs.connection.Connection.put_and_flush.Goals as goal

pub returns-clause-writes : goal.returns-clause-writes
returns-clause-writes g c = writes_behind c.flush.result _ _ _ c.args.octets.now _ _ refl c.in_ok-write_whole.ensures c.flush.ensures.writes
