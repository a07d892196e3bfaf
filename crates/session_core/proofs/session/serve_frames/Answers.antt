use Rattle.std.proofs.Common.{ℕ, List, ap, ◌∙◌}
use Rattle.book_port.specs.Opened.{Opened}
use Rattle.session_core.specs.Serving.{standing_of}
use Rattle.session_core.specs.inner.Feeders.{feeder_state}
use Rattle.session_core.proofs.Found.{earlier, grown_more}
use Rattle.session_core.proofs.Frames.{has_read, nothing_comes, end_comes, event_serves, event_ends}
use Rattle.session_core.proofs.session.serve_frames.Goals as goal

pub returns-in-Ends-clause-serves : goal.returns-in-Ends-clause-serves
returns-in-Ends-clause-serves g c = λ fed before theirs begins.
    let s = c.frames.invariant.serving fed before theirs begins in
    let source = g.I.Source.seen c.frames.incoming.source in
    let at = standing_of (g.P.BookPort.port c.frames.calls.book) c.frames.kept.calls (g.C.Clock.readings c.frames.calls.clock) s.0 in
    end_comes fed c.args.desk.now before (g.W.Sending.progress c.frames.wire) (feeder_state (g.W.Sending.history c.frames.wire) (g.H.Handing.feeding c.frames.calls.feeders).started) c.frames.calls.table c.frames.kept.waiting at c.in-Ends.how source (g.I.Source.seen c.next.new.self.source) c.frames.incoming.count c.next.new.self.count c.frames.incoming.recv c.next.new.self.recv s.1
    (c.in-Ends.ensures.comes before.input s.1.octets s.1.rests.stands.moments (has_read fed c.args.desk.now before (g.W.Sending.progress c.frames.wire) (feeder_state (g.W.Sending.history c.frames.wire) (g.H.Handing.feeding c.frames.calls.feeders).started) c.frames.calls.table c.frames.kept.waiting at source c.frames.incoming.count c.frames.incoming.recv s.1))

pub frames-preserved-in-Nothing : goal.frames-preserved-in-Nothing
frames-preserved-in-Nothing g c = record {
  serving = λ fed before theirs begins.
      let s = c.frames.invariant.serving fed before theirs begins in
      let source = g.I.Source.seen c.frames.incoming.source in
      let at = standing_of (g.P.BookPort.port c.frames.calls.book) c.frames.kept.calls (g.C.Clock.readings c.frames.calls.clock) s.0 in (
        s.0,
        nothing_comes fed c.args.desk.now before (g.W.Sending.progress c.frames.wire) (feeder_state (g.W.Sending.history c.frames.wire) (g.H.Handing.feeding c.frames.calls.feeders).started) c.frames.calls.table c.frames.kept.waiting at source (g.I.Source.seen c.next.new.self.source) c.frames.incoming.count c.next.new.self.count c.frames.incoming.recv c.next.new.self.recv s.1
            (c.in-Nothing.ensures.comes before.input s.1.octets s.1.rests.stands.moments (has_read fed c.args.desk.now before (g.W.Sending.progress c.frames.wire) (feeder_state (g.W.Sending.history c.frames.wire) (g.H.Handing.feeding c.frames.calls.feeders).started) c.frames.calls.table c.frames.kept.waiting at source c.frames.incoming.count c.frames.incoming.recv s.1)),
      );
  grown = c.frames.invariant.grown;
  ours = c.frames.invariant.ours;
  book = c.frames.invariant.book;
  schema = c.frames.invariant.schema;
}

pub returns-in-Err-clause-serves : goal.returns-in-Err-clause-serves
returns-in-Err-clause-serves g c = λ fed before theirs begins.
    let s = c.frames.invariant.serving fed before (earlier fed (g.W.Sending.history c.frames.wire) (g.W.Sending.history c.serve_event.new.wire) c.serve_event.ensures.grown theirs) begins in
    let at = standing_of (g.P.BookPort.port c.frames.calls.book) c.frames.kept.calls (g.C.Clock.readings c.frames.calls.clock) s.0 in
    event_ends fed c.args.desk.now before c.in-Err.how (g.I.Source.seen c.frames.incoming.source) (g.I.Source.seen c.next.new.self.source) c.frames.incoming.count c.next.new.self.count c.frames.incoming.recv c.next.new.self.recv
    (g.W.Sending.progress c.frames.wire) (g.W.Sending.progress c.serve_event.new.wire) (feeder_state (g.W.Sending.history c.frames.wire) (g.H.Handing.feeding c.frames.calls.feeders).started) (feeder_state (g.W.Sending.history c.serve_event.new.wire) (g.H.Handing.feeding c.serve_event.new.calls.feeders).started) c.frames.calls.table c.frames.kept.waiting at (g.P.BookPort.port c.serve_event.new.calls.book) (g.C.Clock.readings c.serve_event.new.calls.clock) c.in-Event.event c.in-Err.ensures.own
    (λ octets moments has. c.in-Event.ensures.comes before.input octets moments has) (λ octets come. c.in-Err.ensures.serves fed before octets s.0 theirs come) s.1

pub frames-preserved-in-Ok : goal.frames-preserved-in-Ok
frames-preserved-in-Ok g c = record {
  serving = λ fed before theirs begins.
      let s = c.frames.invariant.serving fed before (earlier fed (g.W.Sending.history c.frames.wire) (g.W.Sending.history c.serve_event.new.wire) c.serve_event.ensures.grown theirs) begins in
      let at = standing_of (g.P.BookPort.port c.frames.calls.book) c.frames.kept.calls (g.C.Clock.readings c.frames.calls.clock) s.0 in
      event_serves fed c.args.desk.now before (g.I.Source.seen c.frames.incoming.source) (g.I.Source.seen c.next.new.self.source) c.frames.incoming.count c.next.new.self.count c.frames.incoming.recv c.next.new.self.recv c.serve_event.new.recv
      (g.W.Sending.progress c.frames.wire) (g.W.Sending.progress c.serve_event.new.wire) (feeder_state (g.W.Sending.history c.frames.wire) (g.H.Handing.feeding c.frames.calls.feeders).started) (feeder_state (g.W.Sending.history c.serve_event.new.wire) (g.H.Handing.feeding c.serve_event.new.calls.feeders).started) c.frames.calls.table c.serve_event.new.calls.table c.frames.kept.waiting c.in-Ok.still.waiting at (g.P.BookPort.port c.serve_event.new.calls.book) c.in-Ok.still.calls (g.C.Clock.readings c.serve_event.new.calls.clock) c.in-Event.event
      (λ octets moments has. c.in-Event.ensures.comes before.input octets moments has) (λ octets come. c.in-Ok.ensures.serves fed before octets s.0 theirs come) s.1;
  grown = grown_more (g.W.Sending.history c.args.wire.now) (g.W.Sending.history c.frames.wire) (g.W.Sending.history c.serve_event.new.wire) c.frames.invariant.grown c.serve_event.ensures.grown;
  ours = λ of. c.serve_event.ensures.ours (c.frames.invariant.ours of);
  book = c.in-Ok.ensures.book ∙ c.frames.invariant.book;
  schema = ap (λ (of : Opened × List ℕ). of.0.schema) c.in-Ok.ensures.book ∙ c.frames.invariant.schema;
}

pub frames-preserved-in-Ok-2 : goal.frames-preserved-in-Ok-2
frames-preserved-in-Ok-2 g c = record {
  serving = λ fed before theirs begins.
      let s = c.frames.invariant.serving fed before (earlier fed (g.W.Sending.history c.frames.wire) (g.W.Sending.history c.serve_event.new.wire) c.serve_event.ensures.grown theirs) begins in
      let at = standing_of (g.P.BookPort.port c.frames.calls.book) c.frames.kept.calls (g.C.Clock.readings c.frames.calls.clock) s.0 in
      event_serves fed c.args.desk.now before (g.I.Source.seen c.frames.incoming.source) (g.I.Source.seen c.next.new.self.source) c.frames.incoming.count c.next.new.self.count c.frames.incoming.recv c.next.new.self.recv c.serve_event.new.recv
      (g.W.Sending.progress c.frames.wire) (g.W.Sending.progress c.serve_event.new.wire) (feeder_state (g.W.Sending.history c.frames.wire) (g.H.Handing.feeding c.frames.calls.feeders).started) (feeder_state (g.W.Sending.history c.serve_event.new.wire) (g.H.Handing.feeding c.serve_event.new.calls.feeders).started) c.frames.calls.table c.serve_event.new.calls.table c.frames.kept.waiting c.in-Ok.still.waiting at (g.P.BookPort.port c.serve_event.new.calls.book) c.in-Ok.still.calls (g.C.Clock.readings c.serve_event.new.calls.clock) c.in-Event.event
      (λ octets moments has. c.in-Event.ensures.comes before.input octets moments has) (λ octets come. c.in-Ok.ensures.serves fed before octets s.0 theirs come) s.1;
  grown = grown_more (g.W.Sending.history c.args.wire.now) (g.W.Sending.history c.frames.wire) (g.W.Sending.history c.serve_event.new.wire) c.frames.invariant.grown c.serve_event.ensures.grown;
  ours = λ of. c.serve_event.ensures.ours (c.frames.invariant.ours of);
  book = c.in-Ok.ensures.book ∙ c.frames.invariant.book;
  schema = ap (λ (of : Opened × List ℕ). of.0.schema) c.in-Ok.ensures.book ∙ c.frames.invariant.schema;
}

pub frames-preserved : goal.frames-preserved
frames-preserved g c = record {
  serving = λ fed before theirs begins.
      let s = c.frames.invariant.serving fed before (earlier fed (g.W.Sending.history c.frames.wire) (g.W.Sending.history c.serve_event.new.wire) c.serve_event.ensures.grown theirs) begins in
      let at = standing_of (g.P.BookPort.port c.frames.calls.book) c.frames.kept.calls (g.C.Clock.readings c.frames.calls.clock) s.0 in
      event_serves fed c.args.desk.now before (g.I.Source.seen c.frames.incoming.source) (g.I.Source.seen c.next.new.self.source) c.frames.incoming.count c.next.new.self.count c.frames.incoming.recv c.next.new.self.recv c.serve_event.new.recv
      (g.W.Sending.progress c.frames.wire) (g.W.Sending.progress c.serve_event.new.wire) (feeder_state (g.W.Sending.history c.frames.wire) (g.H.Handing.feeding c.frames.calls.feeders).started) (feeder_state (g.W.Sending.history c.serve_event.new.wire) (g.H.Handing.feeding c.serve_event.new.calls.feeders).started) c.frames.calls.table c.serve_event.new.calls.table c.frames.kept.waiting c.in-Ok.still.waiting at (g.P.BookPort.port c.serve_event.new.calls.book) c.in-Ok.still.calls (g.C.Clock.readings c.serve_event.new.calls.clock) c.in-Event.event
      (λ octets moments has. c.in-Event.ensures.comes before.input octets moments has) (λ octets come. c.in-Ok.ensures.serves fed before octets s.0 theirs come) s.1;
  grown = grown_more (g.W.Sending.history c.args.wire.now) (g.W.Sending.history c.frames.wire) (g.W.Sending.history c.serve_event.new.wire) c.frames.invariant.grown c.serve_event.ensures.grown;
  ours = λ of. c.serve_event.ensures.ours (c.frames.invariant.ours of);
  book = c.in-Ok.ensures.book ∙ c.frames.invariant.book;
  schema = ap (λ (of : Opened × List ℕ). of.0.schema) c.in-Ok.ensures.book ∙ c.frames.invariant.schema;
}
