use Rattle.std.proofs.Common.{◌≡◌, ℕ, List, ◌∷◌}
use Rattle.base_kinds.specs.declared.request.ListMode.TheVariants as modes
use Rattle.h2_events.specs.declared.event.RecvEvent.{RecvEvent}
use Rattle.session_core.specs.declared.served.Served.{Served}
use Rattle.session_core.specs.Runs.{Outside, start_of}
use Rattle.stream_workers.specs.Feeders.{Started}
use Rattle.session_core.specs.inner.Feeders.{AreOfFeeders, feeder_state, book_of}
use Rattle.session_core.specs.inner.Places.{IsTurning}
use Rattle.session_core.specs.inner.Sending.{HasGrown}
use Rattle.session_core.proofs.turns.turn_polls.Given as goal

-- the call is the first of those whose turn it is
abbrev pub invariant-polls : goal.invariant-polls
invariant-polls g l = record {
  turning : (fed : List ℕ) (before : Outside) (octets : List ℕ) (started : List Started) (heard : List RecvEvent) (done later : List Served)
      → AreOfFeeders fed (g.W.Sending.history l.wire)
      → l.fn.served.call.plan.mode ≡ modes.Poll
      → IsTurning fed (start_of l.desk before) before.output octets done (l.fn.served ∷ later) l.initial.recv (g.W.Sending.progress l.initial.wire) (feeder_state (g.W.Sending.history l.initial.wire) started) heard l.fn.waiting (g.P.BookPort.port l.initial.book) (g.C.Clock.readings l.initial.clock)
      → IsTurning fed (start_of l.desk before) before.output octets done (l.served ∷ later) l.recv (g.W.Sending.progress l.wire) (feeder_state (g.W.Sending.history l.wire) started) heard l.waiting (g.P.BookPort.port l.book) (g.C.Clock.readings l.clock);
  in_mode : l.fn.served.call.plan.mode ≡ modes.Poll → l.served.call.plan.mode ≡ modes.Poll;
  grown : HasGrown (g.W.Sending.history l.initial.wire) (g.W.Sending.history l.wire);
  book : book_of (g.P.BookPort.port l.book) ≡ book_of (g.P.BookPort.port l.initial.book);
}

abbrev pub decreases-polls : goal.decreases-polls
decreases-polls g l = l.served.polls
