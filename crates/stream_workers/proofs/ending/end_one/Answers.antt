use Rattle.std.proofs.Common.{ap, ◌∙◌}
use Rattle.book_port.specs.Ports.{PortView}
use Rattle.shared_wire.specs.Visits.{VisitView}
use Rattle.stream_workers.specs.Feeders.{started_of}
use Rattle.stream_workers.proofs.Ends.{can_meet, ends_under, has_lock}
use Rattle.stream_workers.proofs.ending.end_one.Goals as goal

pub meet_ports-requires-clause-book : goal.meet_ports-requires-clause-book
meet_ports-requires-clause-book g c =
    let port = g.P.BookPort.port in
    can_meet c.args.next.schema (started_of port c.args.next) c.finish-own.result.end (port c.finish-own.result.book) c.finish-own.result.wire c.finish-own.ensures (port c.args.book.now) c.args.wire.now.lock c.requires.shared c.requires.its

pub meet_ports-requires-clause-wire : goal.meet_ports-requires-clause-wire
meet_ports-requires-clause-wire g c =
    let port = g.P.BookPort.port in
    has_lock c.args.next.schema (started_of port c.args.next) c.finish-own.result.end (port c.finish-own.result.book) c.finish-own.result.wire c.finish-own.ensures 0 c.readiness.result c.readiness.new.self c.readiness.ensures (port c.args.book.now).book c.args.wire.now.lock c.requires.its

pub returns-clause-name : goal.returns-clause-name
returns-clause-name g c = ap (λ (p : PortView). p.book) c.meet_ports.ensures.book.new_is

pub returns-clause-alone : goal.returns-clause-alone
returns-clause-alone g c = ap (λ (p : PortView). p.is_alone) c.meet_ports.ensures.book.new_is ∙ c.requires.shared

pub returns-clause-lock : goal.returns-clause-lock
returns-clause-lock g c = ap (λ (v : VisitView). v.lock) c.meet_ports.ensures.wire.new_is

pub returns-clause-ends : goal.returns-clause-ends
returns-clause-ends g c = λ schema others last_book last_wire is all.
    let port = g.P.BookPort.port in
    ends_under schema c.args.next.schema (started_of port c.args.next) c.finish-own.result.end (port c.finish-own.result.book) c.finish-own.result.wire c.finish-own.ensures is 0 c.readiness.result c.readiness.new.self c.readiness.ensures
    others (port c.args.book.now) (port c.meet_ports.new.book) last_book c.args.wire.now c.meet_ports.new.wire last_wire c.requires.its c.meet_ports.ensures.book c.meet_ports.ensures.wire all
