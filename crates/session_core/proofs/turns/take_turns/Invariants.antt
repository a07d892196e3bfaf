use Rattle.std.proofs.Common.{◌≡◌, ℕ, List, []}
use Rattle.h2_events.specs.declared.event.RecvEvent.{RecvEvent}
use Rattle.session_core.specs.Runs.{Outside, start_of}
use Rattle.stream_workers.specs.Feeders.{Started}
use Rattle.session_core.specs.inner.Feeders.{AreOfFeeders, feeder_state, book_of}
use Rattle.session_core.specs.inner.Places.{IsTurning}
use Rattle.session_core.specs.inner.Sending.{HasGrown}
use Rattle.session_core.proofs.turns.take_turns.Given as goal

-- those that are still served have had their turns, and those that are left haven't
abbrev pub invariant-loop-served : goal.invariant-loop-served
invariant-loop-served g l = record {
  turning : (fed : List ℕ) (before : Outside) (octets : List ℕ) (started : List Started) (heard : List RecvEvent)
      → AreOfFeeders fed (g.W.Sending.history l.wire)
      → IsTurning fed (start_of l.desk before) before.output octets [] l.fn.calls l.initial.recv (g.W.Sending.progress l.initial.wire) (feeder_state (g.W.Sending.history l.initial.wire) started) heard l.fn.waiting (g.P.BookPort.port l.initial.book) (g.C.Clock.readings l.initial.clock)
      → IsTurning fed (start_of l.desk before) before.output octets l.still l.served-iterator.rest.items l.recv (g.W.Sending.progress l.wire) (feeder_state (g.W.Sending.history l.wire) started) heard l.waiting (g.P.BookPort.port l.book) (g.C.Clock.readings l.clock);
  grown : HasGrown (g.W.Sending.history l.initial.wire) (g.W.Sending.history l.wire);
  book : book_of (g.P.BookPort.port l.book) ≡ book_of (g.P.BookPort.port l.initial.book);
}
