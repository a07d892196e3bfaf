use Rattle.std.proofs.Common.{[], refl, sym, subst}
use Rattle.stream_workers.specs.Ports.{own_port}
use Rattle.session_core.specs.declared.how.How.{How}
use Rattle.session_core.specs.FeederRuns.{SessionRunBeside}
use Rattle.session_core.specs.Runs.{outside_of}
use Rattle.session_core.specs.inner.Ends.{how_of}
use Rattle.session_core.proofs.Ends.{begins, begins_badly}
use Rattle.session_core.proofs.Gathered.{greeting_broken}
use Rattle.session_core.proofs.beside.serve.Goals as goal

pub returns-in-Ok : goal.returns-in-Ok
returns-in-Ok g c =
    c.serve_greeted.ensures (g.I.Source.seen c.args.incoming.source) (g.O.Sink.seen c.args.wire.sink)
    (begins g.O.Sink.seen c.args.desk.now (g.I.Source.seen c.args.incoming.source) (own_port (g.P.BookPort.port c.args.book)) (g.C.Clock.readings c.args.clock) c.args.incoming.recv c.args.incoming.count [] c.args.wire c.greet.new.self c.requires.unread c.requires.none_counted c.requires.new c.requires.none refl c.in-Ok.ensures.greets)

pub returns-in-Err : goal.returns-in-Err
returns-in-Err g c =
    subst (λ s. SessionRunBeside c.args.desk.now (outside_of (g.I.Source.seen c.args.incoming.source) (g.O.Sink.seen c.args.wire.sink) (g.P.BookPort.port c.args.book) (g.C.Clock.readings c.args.clock)) c.how_of.result (outside_of (g.I.Source.seen c.args.incoming.source) (g.O.Sink.seen s) (g.P.BookPort.port c.args.book) (g.C.Clock.readings c.args.clock))) (sym c.give.ensures)
    (subst (λ (how : How). SessionRunBeside c.args.desk.now (outside_of (g.I.Source.seen c.args.incoming.source) (g.O.Sink.seen c.args.wire.sink) (g.P.BookPort.port c.args.book) (g.C.Clock.readings c.args.clock)) how (outside_of (g.I.Source.seen c.args.incoming.source) (g.O.Sink.seen c.greet.new.self.sink) (g.P.BookPort.port c.args.book) (g.C.Clock.readings c.args.clock))) (sym c.how_of.ensures.is)
    (greeting_broken c.args.desk.now (outside_of (g.I.Source.seen c.args.incoming.source) (g.O.Sink.seen c.args.wire.sink) (g.P.BookPort.port c.args.book) (g.C.Clock.readings c.args.clock)) (how_of c.in-Err.fault) (g.I.Source.seen c.args.incoming.source) (g.O.Sink.seen c.greet.new.self.sink)
    (begins_badly g.O.Sink.seen c.args.desk.now (g.I.Source.seen c.args.incoming.source) (own_port (g.P.BookPort.port c.args.book)) (g.C.Clock.readings c.args.clock) c.in-Err.fault c.args.wire c.greet.new.self c.requires.new c.in-Err.ensures.greets) c.requires.shared))
