use Rattle.std.proofs.Common.{ap, Err}
use Rattle.stream_workers.proofs.Ports.{book_knew, book_knows, book_met, can_meet_twin, visit_knew}
use Rattle.stream_workers.proofs.twins.twins.Goals as goal

pub returns-in_default-clause-none : goal.returns-in_default-clause-none
returns-in_default-clause-none g c =
    let port = g.P.BookPort.port in
    let knew = book_knew c.in_default.field-0 (port c.args.book.now) (port c.twin.new.self) (λ is. c.in_default.ensures.spent (ap Err is)) (λ is. c.in_default.ensures.memory (ap Err is)) in
    book_knows (port c.args.book.now) (port c.twin.new.self) c.args.wire.now knew.0 knew.1

pub meet-requires : goal.meet-requires
meet-requires g c = can_meet_twin _ _ _ c.in-Ok.ensures.ok

pub returns-in-Ok-twin-clause-book : goal.returns-in-Ok-twin-clause-book
returns-in-Ok-twin-clause-book g c = c.in-Ok.ensures.ok

pub returns-in-Ok-twin-clause-wire : goal.returns-in-Ok-twin-clause-wire
returns-in-Ok-twin-clause-wire g c = c.in-Ok-twin.ensures.ok

pub returns-in-Err-clause-none : goal.returns-in-Err-clause-none
returns-in-Err-clause-none g c =
    let port = g.P.BookPort.port in
    let knew = visit_knew c.in-Err.field-0 c.args.wire.now c.twin-2.new.self (λ is. c.in-Err.ensures.spent (ap Err is)) (λ is. c.in-Err.ensures.memory (ap Err is)) in
    book_met (port c.args.book.now) (port c.twin.new.self) (port c.meet.new.self) (port c.in-Ok.own) c.args.wire.now c.twin-2.new.self knew.0 c.in-Ok.ensures.ok c.meet.ensures knew.1
