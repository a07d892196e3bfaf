use Rattle.std.proofs.Common.{List, ◌++◌, subst, sym, ap, ◌∙◌, append-nil, Option}
use Rattle.session_core.specs.declared.served.Served.{Served}
use Rattle.session_core.specs.Runs.{start_of}
use Rattle.session_core.specs.inner.Feeders.{feeder_state}
use Rattle.session_core.specs.inner.Places.{IsTurning}
use Rattle.session_core.specs.inner.Steps.{list_of}
use Rattle.session_core.proofs.Found.{earlier, grown_more}
use Rattle.session_core.proofs.Turning.{turning_starved}
use Rattle.session_core.proofs.turns.take_turns.Goals as goal

pub returns-in-Err-clause-turned : goal.returns-in-Err-clause-turned
returns-in-Err-clause-turned g c = λ fed before octets started heard theirs first.
    c.in-Err.ensures.turned fed before octets started heard c.loop-served.still c.next.new.self.rest.items theirs
    (subst (λ (due : List Served). IsTurning fed (start_of c.args.desk.now before) before.output octets c.loop-served.still due c.loop-served.recv (g.W.Sending.progress c.loop-served.wire) (feeder_state (g.W.Sending.history c.loop-served.wire) started) heard c.loop-served.waiting (g.P.BookPort.port c.loop-served.book) (g.C.Clock.readings c.loop-served.clock))
    c.in-Some.ensures.steps.0 (c.loop-served.invariant.turning fed before octets started heard (earlier fed (g.W.Sending.history c.loop-served.wire) (g.W.Sending.history c.turn_call.new.wire) c.turn_call.ensures.grown theirs) first))

pub returns-in-Err-push-clause-turned : goal.returns-in-Err-push-clause-turned
returns-in-Err-push-clause-turned g c = λ fed before octets started heard theirs first.
    turning_starved fed (start_of c.args.desk.now before) before.output octets c.turn_call.new.recv (g.W.Sending.progress c.turn_call.new.wire) (feeder_state (g.W.Sending.history c.turn_call.new.wire) started) heard (c.loop-served.still ++ list_of c.in-Ok.field-0.left) c.next.new.self.rest.items c.in-Ok.field-0.waiting (g.P.BookPort.port c.turn_call.new.book) (g.C.Clock.readings c.turn_call.new.clock)
    (c.in-Ok.ensures.turned fed before octets started heard c.loop-served.still c.next.new.self.rest.items theirs
    (subst (λ (due : List Served). IsTurning fed (start_of c.args.desk.now before) before.output octets c.loop-served.still due c.loop-served.recv (g.W.Sending.progress c.loop-served.wire) (feeder_state (g.W.Sending.history c.loop-served.wire) started) heard c.loop-served.waiting (g.P.BookPort.port c.loop-served.book) (g.C.Clock.readings c.loop-served.clock))
    c.in-Some.ensures.steps.0 (c.loop-served.invariant.turning fed before octets started heard (earlier fed (g.W.Sending.history c.loop-served.wire) (g.W.Sending.history c.turn_call.new.wire) c.turn_call.ensures.grown theirs) first)))

pub loop-served-preserved-in-None-left : goal.loop-served-preserved-in-None-left
loop-served-preserved-in-None-left g c = record {
  turning = λ fed before octets started heard theirs first.
      subst (λ (done : List Served). IsTurning fed (start_of c.args.desk.now before) before.output octets done c.next.new.self.rest.items c.turn_call.new.recv (g.W.Sending.progress c.turn_call.new.wire) (feeder_state (g.W.Sending.history c.turn_call.new.wire) started) heard c.in-Ok.field-0.waiting (g.P.BookPort.port c.turn_call.new.book) (g.C.Clock.readings c.turn_call.new.clock))
      (ap (λ (o : Option Served). c.loop-served.still ++ list_of o) c.in-None-left.is ∙ append-nil c.loop-served.still)
      (c.in-Ok.ensures.turned fed before octets started heard c.loop-served.still c.next.new.self.rest.items theirs
      (subst (λ (due : List Served). IsTurning fed (start_of c.args.desk.now before) before.output octets c.loop-served.still due c.loop-served.recv (g.W.Sending.progress c.loop-served.wire) (feeder_state (g.W.Sending.history c.loop-served.wire) started) heard c.loop-served.waiting (g.P.BookPort.port c.loop-served.book) (g.C.Clock.readings c.loop-served.clock))
      c.in-Some.ensures.steps.0 (c.loop-served.invariant.turning fed before octets started heard (earlier fed (g.W.Sending.history c.loop-served.wire) (g.W.Sending.history c.turn_call.new.wire) c.turn_call.ensures.grown theirs) first)));
  grown = grown_more (g.W.Sending.history c.args.wire.now) (g.W.Sending.history c.loop-served.wire) (g.W.Sending.history c.turn_call.new.wire) c.loop-served.invariant.grown c.turn_call.ensures.grown;
  book = c.in-Ok.ensures.book ∙ c.loop-served.invariant.book;
}

pub loop-served-preserved : goal.loop-served-preserved
loop-served-preserved g c = record {
  turning = λ fed before octets started heard theirs first.
      subst (λ (done : List Served). IsTurning fed (start_of c.args.desk.now before) before.output octets done c.next.new.self.rest.items c.turn_call.new.recv (g.W.Sending.progress c.turn_call.new.wire) (feeder_state (g.W.Sending.history c.turn_call.new.wire) started) heard c.in-Ok.field-0.waiting (g.P.BookPort.port c.turn_call.new.book) (g.C.Clock.readings c.turn_call.new.clock))
      (ap (λ (o : Option Served). c.loop-served.still ++ list_of o) c.in-Some-left.is ∙ sym c.in-Ok-push.ensures.ok)
      (c.in-Ok.ensures.turned fed before octets started heard c.loop-served.still c.next.new.self.rest.items theirs
      (subst (λ (due : List Served). IsTurning fed (start_of c.args.desk.now before) before.output octets c.loop-served.still due c.loop-served.recv (g.W.Sending.progress c.loop-served.wire) (feeder_state (g.W.Sending.history c.loop-served.wire) started) heard c.loop-served.waiting (g.P.BookPort.port c.loop-served.book) (g.C.Clock.readings c.loop-served.clock))
      c.in-Some.ensures.steps.0 (c.loop-served.invariant.turning fed before octets started heard (earlier fed (g.W.Sending.history c.loop-served.wire) (g.W.Sending.history c.turn_call.new.wire) c.turn_call.ensures.grown theirs) first)));
  grown = grown_more (g.W.Sending.history c.args.wire.now) (g.W.Sending.history c.loop-served.wire) (g.W.Sending.history c.turn_call.new.wire) c.loop-served.invariant.grown c.turn_call.ensures.grown;
  book = c.in-Ok.ensures.book ∙ c.loop-served.invariant.book;
}
