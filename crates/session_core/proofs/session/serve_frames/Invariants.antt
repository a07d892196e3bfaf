use Rattle.std.proofs.Common.{◌≡◌, ◌-◌, ℕ, List, []}
use Rattle.session_core.specs.Deeds.{Deed}
use Rattle.session_core.specs.Runs.{Outside}
use Rattle.session_core.specs.Reading.{most_octets}
use Rattle.session_core.specs.Serving.{standing_of}
use Rattle.session_core.specs.inner.Feeders.{AreOfSession, AreOfFeeders, feeder_state, book_of}
use Rattle.session_core.specs.inner.Places.{IsServing, place_of}
use Rattle.session_core.specs.inner.Sending.{HasGrown}
use Rattle.session_core.proofs.session.serve_frames.Given as goal

-- all that was read so far is served
abbrev pub invariant-frames : goal.invariant-frames
invariant-frames g l = record {
  serving : (fed : List ℕ) (before : Outside)
      → AreOfFeeders fed (g.W.Sending.history l.wire)
      → IsServing fed l.desk before (g.I.Source.seen l.initial.incoming.source) l.initial.incoming.count (place_of l.initial.incoming.recv (g.W.Sending.progress l.initial.wire) (feeder_state (g.W.Sending.history l.initial.wire) (g.H.Handing.feeding l.initial.calls.feeders).started) l.initial.calls.table [] [] (standing_of (g.P.BookPort.port l.initial.calls.book) [] (g.C.Clock.readings l.initial.calls.clock) []))
      → (round : List Deed) × IsServing fed l.desk before (g.I.Source.seen l.incoming.source) l.incoming.count (place_of l.incoming.recv (g.W.Sending.progress l.wire) (feeder_state (g.W.Sending.history l.wire) (g.H.Handing.feeding l.calls.feeders).started) l.calls.table l.kept.waiting [] (standing_of (g.P.BookPort.port l.calls.book) l.kept.calls (g.C.Clock.readings l.calls.clock) round));
  grown : HasGrown (g.W.Sending.history l.initial.wire) (g.W.Sending.history l.wire);
  ours : AreOfSession (g.P.BookPort.port l.initial.calls.book) (g.W.Sending.history l.initial.wire) (g.H.Handing.feeding l.initial.calls.feeders) → AreOfSession (g.P.BookPort.port l.calls.book) (g.W.Sending.history l.wire) (g.H.Handing.feeding l.calls.feeders);
  book : book_of (g.P.BookPort.port l.calls.book) ≡ book_of (g.P.BookPort.port l.initial.calls.book);
  schema : (g.P.BookPort.port l.calls.book).opened.schema ≡ l.desk;
}

abbrev pub decreases-frames : goal.decreases-frames
decreases-frames g l = most_octets - l.incoming.count
