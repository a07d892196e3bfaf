use Rattle.std.proofs.Common.{[], refl, subst, sym}
use Rattle.session_core.specs.declared.how.How.{How}
use Rattle.session_core.specs.Runs.{SessionRun, outside_of}
use Rattle.h2_send.specs.Wires.{progress_of}
use Rattle.session_core.proofs.Ends.{alone_so, begins, begins_badly, no_side}
use Rattle.session_core.proofs.session.serve.Goals as goal

pub returns-in-Err : goal.returns-in-Err
returns-in-Err g c = λ recv_is counted is_new none silent.
    let old = outside_of (g.I.Source.seen c.args.incoming.now.source) (g.O.Sink.seen c.args.wire.now.sink) (g.P.BookPort.port c.args.calls.now.book) (g.C.Clock.readings c.args.calls.now.clock) in
    let new = outside_of (g.I.Source.seen c.args.incoming.now.source) (g.O.Sink.seen c.greet.new.self.sink) (g.P.BookPort.port c.args.calls.now.book) (g.C.Clock.readings c.args.calls.now.clock) in
    subst (λ (how : How). SessionRun c.args.desk.now old how new) (sym c.how_of.ensures.is)
    (begins_badly g.O.Sink.seen c.args.desk.now (g.I.Source.seen c.args.incoming.now.source) (g.P.BookPort.port c.args.calls.now.book) (g.C.Clock.readings c.args.calls.now.clock) c.in-Err.fault c.args.wire.now c.greet.new.self is_new c.in-Err.ensures.greets)

pub returns-in-Ok : goal.returns-in-Ok
returns-in-Ok g c = λ recv_is counted is_new none silent.
    let old = outside_of (g.I.Source.seen c.args.incoming.now.source) (g.O.Sink.seen c.args.wire.now.sink) (g.P.BookPort.port c.args.calls.now.book) (g.C.Clock.readings c.args.calls.now.clock) in
    alone_so c.serve_to_end.result c.args.desk.now old (g.I.Source.seen c.serve_to_end.new.incoming.source) (progress_of g.O.Sink.seen c.serve_to_end.new.wire) no_side (g.P.BookPort.port c.serve_to_end.new.calls.book) (g.C.Clock.readings c.serve_to_end.new.calls.clock) refl
    (c.serve_to_end.ensures.ends [] old tt
    (begins g.O.Sink.seen c.args.desk.now (g.I.Source.seen c.args.incoming.now.source) (g.P.BookPort.port c.args.calls.now.book) (g.C.Clock.readings c.args.calls.now.clock) c.args.incoming.now.recv c.args.incoming.now.count c.args.calls.now.table c.args.wire.now c.greet.new.self recv_is counted is_new none silent c.in-Ok.ensures.greets
    [] no_side refl (λ stream. refl)))
