use Rattle.std.proofs.Common.{◌≡◌, List, refl, sym, ap, subst}
use Rattle.std.specs.List.{AllByRecursion}
use Rattle.base_kinds.specs.Schema.{SchemaNode}
use Rattle.book_port.specs.Ports.{PortView}
use Rattle.shared_wire.specs.Records.{left_in}
use Rattle.shared_wire.specs.Visits.{VisitView, others_of}
use Rattle.stream_workers.specs.Feeders.{AllEnd, FeedersView, IsOfFeeder, streams_of}
use Rattle.stream_workers.specs.Ports.{own_port}
use Rattle.session_core.specs.FeederRuns.{SessionRunBeside}
use Rattle.session_core.specs.Runs.{outside_of}
use Rattle.session_core.specs.inner.Feeders.{feeder_state}
use Rattle.session_core.specs.inner.Places.{HasFinished}
use Rattle.session_core.proofs.Gathered.{visit_history, begins_there, served_beside, theirs, under_it}
use Rattle.session_core.proofs.beside.serve_shared.Goals as goal

pub returns : goal.returns
returns g c = λ input output at first begins.
    let old = outside_of input output (g.P.BookPort.port c.args.book) (g.C.Clock.readings c.args.clock) in
    let how = c.serve_to_end-how.result in
    let source = g.I.Source.seen c.serve_to_end-how.new.incoming.source in
    let readings = g.C.Clock.readings c.serve_to_end-how.new.calls.clock in
    let started = c.serve_to_end-how.new.calls.feeders.started in
    let visit : c.wire.inside.visit ≡ c.serve_to_end-how.new.wire = c.wire.view_is in
    let port : (g.P.BookPort.port c.book.inside.port) ≡ c.serve_to_end-how.new.calls.book = c.book.view_is in
    let schema : c.serve_to_end-how.new.calls.feeders.schema ≡ c.args.desk.now = under_it c.args.desk.now (g.P.BookPort.port c.args.book) c.serve_to_end-how.new.calls.book c.args.feeders c.serve_to_end-how.new.calls.feeders (visit_history c.args.visit) (visit_history c.serve_to_end-how.new.wire) c.requires.schema c.requires.none c.serve_to_end-how.ensures.ours c.serve_to_end-how.ensures.book in
    let end = subst (λ (s : List SchemaNode). AllEnd s started (g.P.BookPort.port c.book.inside.port) c.wire.inside.visit (g.P.BookPort.port c.finish.new.book) c.finish.new.wire) schema c.finish.ensures in
    let all_theirs = theirs g.O.Sink.seen c.args.desk.now started (g.P.BookPort.port c.book.inside.port) (g.P.BookPort.port c.finish.new.book) c.wire.inside.visit c.finish.new.wire c.finish-2.result c.wire.invariant end c.finish-2.ensures in
    let finished = c.serve_to_end-how.ensures.ends (streams_of end.feeders) (outside_of input output (own_port (g.P.BookPort.port c.args.book)) (g.C.Clock.readings c.args.clock))
    (subst (λ (v : VisitView). AllByRecursion (IsOfFeeder (streams_of end.feeders)) (others_of v)) visit all_theirs)
    (begins_there c.args.desk.now (outside_of input output (own_port (g.P.BookPort.port c.args.book)) (g.C.Clock.readings c.args.clock)) (g.I.Source.seen c.args.incoming.source) c.args.incoming.count c.args.incoming.recv at (own_port (g.P.BookPort.port c.args.book)) (g.C.Clock.readings c.args.clock) c.args.visit (streams_of end.feeders) c.make.result c.args.feeders.started first c.make.ensures (ap (λ (f : FeedersView). f.started) c.requires.none) begins) in
    let there = subst (λ (v : VisitView). HasFinished how (streams_of end.feeders) c.args.desk.now (outside_of input output (own_port (g.P.BookPort.port c.args.book)) (g.C.Clock.readings c.args.clock)) source (left_in v.seen) (feeder_state (visit_history v) started) (own_port (g.P.BookPort.port c.book.inside.port)) readings) (sym visit)
    (subst (λ (p : PortView). HasFinished how (streams_of end.feeders) c.args.desk.now (outside_of input output (own_port (g.P.BookPort.port c.args.book)) (g.C.Clock.readings c.args.clock)) source (left_in c.serve_to_end-how.new.wire.seen) (feeder_state (visit_history c.serve_to_end-how.new.wire) started) (own_port p) readings) (sym port) finished) in
    subst (λ s. SessionRunBeside c.args.desk.now old how (outside_of source (g.O.Sink.seen s) (g.P.BookPort.port c.finish.new.book) readings)) (sym c.give.ensures)
    (served_beside g.O.Sink.seen c.args.desk.now old how source (feeder_state (visit_history c.wire.inside.visit) started) (g.P.BookPort.port c.book.inside.port) (g.P.BookPort.port c.finish.new.book) readings c.wire.inside.visit c.finish.new.wire c.finish-2.result c.book.invariant c.wire.invariant end c.finish-2.ensures refl there)
