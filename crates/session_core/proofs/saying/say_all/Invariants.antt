use Rattle.std.proofs.Common.{ℕ, List, ◌++◌}
use Rattle.environment.specs.Output.{Output}
use Rattle.h2_events.specs.declared.event.RecvEvent.{RecvEvent}
use Rattle.grpc_requests.specs.declared.request.Request.{Request}
use Rattle.stream_workers.specs.Feeders.{Started}
use Rattle.session_core.specs.declared.waiting.Waiting.{Waiting}
use Rattle.session_core.specs.Saying.{AreBehind}
use Rattle.session_core.specs.Serving.{Start, Standing}
use Rattle.session_core.specs.inner.Feeders.{AreOfFeeders, feeder_state}
use Rattle.session_core.specs.inner.Places.{IsWriting, Stands, place_of}
use Rattle.session_core.specs.inner.Sending.{HasGrown}
use Rattle.session_core.proofs.saying.say_all.Given as goal

-- what is still kept, and then what was not tried yet, is what waits
abbrev pub invariant-loop-w : goal.invariant-loop-w
invariant-loop-w g l = record {
  says : (fed : List ℕ) (start : Start) (output : Output) (octets : List ℕ) (started : List Started) (heard : List RecvEvent) (owed : List Request) (at : Standing)
      → AreOfFeeders fed (g.W.Sending.history l.wire)
      → AreBehind (g.W.Sending.progress l.initial.wire).inputs l.fn.behind
      → Stands fed start output octets (place_of l.initial.recv (g.W.Sending.progress l.initial.wire) (feeder_state (g.W.Sending.history l.initial.wire) started) heard (l.fn.behind ++ l.fn.waiting) owed at)
      → Stands fed start output octets (place_of l.recv (g.W.Sending.progress l.wire) (feeder_state (g.W.Sending.history l.wire) started) heard (l.still ++ l.w-iterator.rest.items) owed at);
  goes : (fed : List ℕ) (output : Output) (others : List Waiting) → AreOfFeeders fed (g.W.Sending.history l.wire) → IsWriting output (g.W.Sending.progress l.initial.wire) → AreBehind (g.W.Sending.progress l.initial.wire).inputs others
      → IsWriting output (g.W.Sending.progress l.wire) × AreBehind (g.W.Sending.progress l.wire).inputs others;
  behind : (fed : List ℕ) (output : Output) → AreOfFeeders fed (g.W.Sending.history l.wire) → IsWriting output (g.W.Sending.progress l.initial.wire) → AreBehind (g.W.Sending.progress l.initial.wire).inputs l.fn.behind → AreBehind (g.W.Sending.progress l.wire).inputs l.still;
  grown : HasGrown (g.W.Sending.history l.initial.wire) (g.W.Sending.history l.wire);
}
