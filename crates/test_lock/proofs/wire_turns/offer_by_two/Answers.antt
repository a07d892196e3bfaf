use denote.Param.Send.{sendable}
use Rattle.std.proofs.Crossing.{crosses}
use Rattle.test_lock.proofs.WireCrossing.{port_send}
use Rattle.test_lock.proofs.wire_turns.offer_by_two.Goals as goal

pub join-one-requires-send-F : goal.join-one-requires-send-F
join-one-requires-send-F g c = let shared = c.type_bounds.sync-R in let port = port_send g.row.R c.type_bounds.send-R in search (sendable, crosses) depth 40 fits 10000

pub join-one-requires-send-A : goal.join-one-requires-send-A
join-one-requires-send-A g c = let port = port_send g.row.R c.type_bounds.send-R in search (sendable, crosses) depth 40 fits 10000
