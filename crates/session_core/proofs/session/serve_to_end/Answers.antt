use Rattle.session_core.proofs.Found.{earlier}
use Rattle.session_core.proofs.session.serve_to_end.Goals as goal

pub returns-clause-ends : goal.returns-clause-ends
returns-clause-ends g c = λ fed before theirs serving.
    c.finish.ensures.ends fed c.args.desk.now before (g.I.Source.seen c.serve_frames-how.new.incoming.source) (g.H.Handing.feeding c.serve_frames-how.new.calls.feeders).started (g.P.BookPort.port c.serve_frames-how.new.calls.book) (g.C.Clock.readings c.serve_frames-how.new.calls.clock) theirs
    (c.serve_frames-how.ensures.serves fed before (earlier fed (g.W.Sending.history c.serve_frames-how.new.wire) (g.W.Sending.history c.finish.new.wire) c.finish.ensures.grown theirs) serving)
