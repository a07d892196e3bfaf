use denote.Param.Send.{sendable}
use Rattle.std.proofs.Crossing.{crosses}
use Rattle.test_lock.proofs.BookCrossing.{port_send}
use Rattle.test_lock.proofs.book_turns.by_four.Goals as goal

pub join-left-requires-send-F : goal.join-left-requires-send-F
join-left-requires-send-F g c = let shared = c.type_bounds.sync-R in let port = port_send g.row.R c.type_bounds.send-R in search (sendable, crosses) depth 40 fits 10000

pub join-left-requires-send-A : goal.join-left-requires-send-A
join-left-requires-send-A g c = let port = port_send g.row.R c.type_bounds.send-R in search (sendable, crosses) depth 40 fits 10000
