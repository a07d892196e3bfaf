use denote.Param.Send.{sendable}
use Rattle.std.proofs.Crossing.{crosses}
use Rattle.test_lock.proofs.BookCrossing.{port_send}
use Rattle.test_lock.proofs.book_turns.by_two.Goals as goal

pub join-visit-requires-send-F : goal.join-visit-requires-send-F
join-visit-requires-send-F g c = let port = port_send g.row.R c.type_bounds.send-R in search (sendable, crosses) depth 40 fits 10000

pub join-visit-requires-send-A : goal.join-visit-requires-send-A
join-visit-requires-send-A g c = let port = port_send g.row.R c.type_bounds.send-R in search (sendable, crosses) depth 40 fits 10000
