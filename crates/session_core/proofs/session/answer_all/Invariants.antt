use Rattle.std.proofs.Common.{◌≡◌, ℕ, List}
use Rattle.h2_streams.specs.Calls.{Moment}
use Rattle.h2_send.specs.Inputs.{Input}
use Rattle.session_core.specs.Runs.{Outside, start_of}
use Rattle.session_core.specs.inner.Feeders.{AreOfSession, feeder_state, book_of}
use Rattle.session_core.specs.inner.Places.{IsServedAt}
use Rattle.session_core.proofs.session.answer_all.Given as goal

-- the requests that are left are owed
abbrev pub invariant-loop-request : goal.invariant-loop-request
invariant-loop-request g l = record {
  serving : (fed : List ℕ) (before : Outside) (moments : List Moment) (inputs : List Input)
      → IsServedAt fed (start_of l.desk before) moments inputs (feeder_state (g.W.Sending.history l.initial.wire) (g.H.Handing.feeding l.initial.feeders).started) l.fn.kept.waiting l.fn.requests (g.P.BookPort.port l.initial.book) l.fn.kept.calls (g.C.Clock.readings l.initial.clock)
      → IsServedAt fed (start_of l.desk before) moments inputs (feeder_state (g.W.Sending.history l.wire) (g.H.Handing.feeding l.feeders).started) l.kept.waiting l.request-iterator.rest.items (g.P.BookPort.port l.book) l.kept.calls (g.C.Clock.readings l.clock);
  wire : (g.W.Sending.progress l.wire) ≡ (g.W.Sending.progress l.initial.wire);
  beside : (g.W.Sending.history l.wire) ≡ (g.W.Sending.history l.initial.wire);
  ours : AreOfSession (g.P.BookPort.port l.initial.book) (g.W.Sending.history l.initial.wire) (g.H.Handing.feeding l.initial.feeders) → AreOfSession (g.P.BookPort.port l.book) (g.W.Sending.history l.wire) (g.H.Handing.feeding l.feeders);
  book : book_of (g.P.BookPort.port l.book) ≡ book_of (g.P.BookPort.port l.initial.book);
}
