use Rattle.std.proofs.Common.{◌≡◌, ◌+◌, ◌∷◌, [], ◌++◌, sym, ap, ◌∙◌, subst, inl, Option, Ok}
use Rattle.h2_events.specs.declared.port.Ready.TheVariants.{Gone, Busy, Free}
use Rattle.session_core.specs.declared.how.How.{How}
use Rattle.session_core.specs.Runs.{start_of}
use Rattle.session_core.specs.Serving.{standing_of}
use Rattle.session_core.specs.inner.Feeders.{feeder_state}
use Rattle.session_core.specs.inner.Places.{HasEnded}
use Rattle.session_core.proofs.Found.{earlier, grown_more}
use Rattle.session_core.proofs.Looking.{turning_ends, turning_looked}
use Rattle.std.specs.Prelude.{IfSome}
use Rattle.sub_plan.specs.declared.plan.Plan.{Plan}
use Rattle.session_core.specs.declared.served.Served.{Served}
use Rattle.session_core.proofs.Turning.{is_busy, is_gone, no_poll, turns_had, has_turned, turn_deed, goes_on_so, ends_so}
use Rattle.session_core.proofs.turns.turn_polls.Goals as goal

pub returns-in-Err-clause-turned : goal.returns-in-Err-clause-turned
returns-in-Err-clause-turned g c = λ fed before octets started heard done later theirs in_mode first.
    let t = c.polls.invariant.turning fed before octets started heard done later (earlier fed (g.W.Sending.history c.polls.wire) (g.W.Sending.history c.readiness.new.self) c.readiness.ensures.grown theirs) in_mode first in
    subst (λ (how : How). HasEnded how fed (start_of c.args.desk.now before) octets before.output (g.W.Sending.progress c.readiness.new.self) (feeder_state (g.W.Sending.history c.readiness.new.self) started) (g.P.BookPort.port c.polls.book) (g.C.Clock.readings c.polls.clock)) (sym c.how_of.ensures.is)
    (turning_ends fed (g.W.Sending.history c.polls.wire) (g.W.Sending.history c.readiness.new.self) (g.W.Sending.progress c.polls.wire) (g.W.Sending.progress c.readiness.new.self) c.polls.served.stream c.readiness.result c.readiness.ensures.reads theirs (start_of c.args.desk.now before) before.output octets started c.readiness.ensures.grown c.readiness.ensures.silent c.polls.recv heard c.polls.waiting done (c.polls.served ∷ later) (g.P.BookPort.port c.polls.book) (g.C.Clock.readings c.polls.clock) c.in-Err.fault c.in-Err.is t)

pub returns-in-Ok-Gone-clause-turned : goal.returns-in-Ok-Gone-clause-turned
returns-in-Ok-Gone-clause-turned g c =
    let is = c.in-Ok-Gone.field-0-is in
    let same : c.in-Ok-Gone.field-0 ≡ Gone = cc in
    let looked = c.in-Ok-Gone.is ∙ ap Ok same in
    λ fed before octets started heard done later theirs in_mode first.
    let t = c.polls.invariant.turning fed before octets started heard done later (earlier fed (g.W.Sending.history c.polls.wire) (g.W.Sending.history c.readiness.new.self) c.readiness.ensures.grown theirs) in_mode first in
    let l = turning_looked fed (g.W.Sending.history c.polls.wire) (g.W.Sending.history c.readiness.new.self) (g.W.Sending.progress c.polls.wire) (g.W.Sending.progress c.readiness.new.self) c.polls.served.stream c.readiness.result c.readiness.ensures.reads theirs (start_of c.args.desk.now before) before.output octets started c.readiness.ensures.grown c.readiness.ensures.silent c.polls.recv heard c.polls.waiting done (c.polls.served ∷ later) (g.P.BookPort.port c.polls.book) (g.C.Clock.readings c.polls.clock) Gone looked t in
    is_gone fed (start_of c.args.desk.now before) before.output octets c.polls.recv (g.W.Sending.progress c.readiness.new.self) (feeder_state (g.W.Sending.history c.readiness.new.self) started) heard done later c.polls.served c.polls.waiting (g.P.BookPort.port c.polls.book) (g.C.Clock.readings c.polls.clock) l.0 l.1

pub returns-in-Ok-Busy-clause-turned : goal.returns-in-Ok-Busy-clause-turned
returns-in-Ok-Busy-clause-turned g c =
    let is = c.in-Ok-Busy.field-0-is in
    let same : c.in-Ok-Busy.field-0 ≡ Busy = cc in
    let looked = c.in-Ok-Busy.is ∙ ap Ok same in
    λ fed before octets started heard done later theirs in_mode first.
    let t = c.polls.invariant.turning fed before octets started heard done later (earlier fed (g.W.Sending.history c.polls.wire) (g.W.Sending.history c.readiness.new.self) c.readiness.ensures.grown theirs) in_mode first in
    let l = turning_looked fed (g.W.Sending.history c.polls.wire) (g.W.Sending.history c.readiness.new.self) (g.W.Sending.progress c.polls.wire) (g.W.Sending.progress c.readiness.new.self) c.polls.served.stream c.readiness.result c.readiness.ensures.reads theirs (start_of c.args.desk.now before) before.output octets started c.readiness.ensures.grown c.readiness.ensures.silent c.polls.recv heard c.polls.waiting done (c.polls.served ∷ later) (g.P.BookPort.port c.polls.book) (g.C.Clock.readings c.polls.clock) Busy looked t in
    is_busy fed (start_of c.args.desk.now before) before.output octets c.polls.recv (g.W.Sending.progress c.readiness.new.self) (feeder_state (g.W.Sending.history c.readiness.new.self) started) heard done later c.polls.served c.polls.waiting (g.P.BookPort.port c.polls.book) (g.C.Clock.readings c.polls.clock) l.0 l.1

pub returns-then-served-eq0-clause-turned : goal.returns-then-served-eq0-clause-turned
returns-then-served-eq0-clause-turned g c =
    let is = c.in-Ok-Free.field-0-is in
    let same : c.in-Ok-Free.field-0 ≡ Free = cc in
    let looked = c.in-Ok-Free.is ∙ ap Ok same in
    λ fed before octets started heard done later theirs in_mode first.
    let t = c.polls.invariant.turning fed before octets started heard done later (earlier fed (g.W.Sending.history c.polls.wire) (g.W.Sending.history c.readiness.new.self) c.readiness.ensures.grown theirs) in_mode first in
    let l = turning_looked fed (g.W.Sending.history c.polls.wire) (g.W.Sending.history c.readiness.new.self) (g.W.Sending.progress c.polls.wire) (g.W.Sending.progress c.readiness.new.self) c.polls.served.stream c.readiness.result c.readiness.ensures.reads theirs (start_of c.args.desk.now before) before.output octets started c.readiness.ensures.grown c.readiness.ensures.silent c.polls.recv heard c.polls.waiting done (c.polls.served ∷ later) (g.P.BookPort.port c.polls.book) (g.C.Clock.readings c.polls.clock) Free looked t in
    turns_had fed (start_of c.args.desk.now before) before.output octets c.polls.recv (g.W.Sending.progress c.readiness.new.self) (feeder_state (g.W.Sending.history c.readiness.new.self) started) heard done later c.polls.served c.polls.waiting (g.P.BookPort.port c.polls.book) (g.C.Clock.readings c.polls.clock) l.0 (inl (no_poll c.polls.served l.0.round (c.polls.invariant.in_mode in_mode) c.if-served-eq0.true))

pub returns-in-Err-say_turn-clause-turned : goal.returns-in-Err-say_turn-clause-turned
returns-in-Err-say_turn-clause-turned g c =
    let is = c.in-Ok-Free.field-0-is in
    let same : c.in-Ok-Free.field-0 ≡ Free = cc in
    let looked = c.in-Ok-Free.is ∙ ap Ok same in
    λ fed before octets started heard done later theirs in_mode first.
    let then = earlier fed (g.W.Sending.history c.readiness.new.self) (g.W.Sending.history c.say_turn.new.wire) c.say_turn.ensures.grown theirs in
    let t = c.polls.invariant.turning fed before octets started heard done later (earlier fed (g.W.Sending.history c.polls.wire) (g.W.Sending.history c.readiness.new.self) c.readiness.ensures.grown then) in_mode first in
    let l = turning_looked fed (g.W.Sending.history c.polls.wire) (g.W.Sending.history c.readiness.new.self) (g.W.Sending.progress c.polls.wire) (g.W.Sending.progress c.readiness.new.self) c.polls.served.stream c.readiness.result c.readiness.ensures.reads then (start_of c.args.desk.now before) before.output octets started c.readiness.ensures.grown c.readiness.ensures.silent c.polls.recv heard c.polls.waiting done (c.polls.served ∷ later) (g.P.BookPort.port c.polls.book) (g.C.Clock.readings c.polls.clock) Free looked t in
    let is = c.poll_turn-reply.ensures.turned (c.polls.invariant.in_mode in_mode) in
    let next = g.P.BookPort.port c.poll_turn-reply.new.book in
    let more = g.C.Clock.readings c.poll_turn-reply.new.clock in
    let stood = has_turned fed (start_of c.args.desk.now before) before.output octets c.polls.recv (g.W.Sending.progress c.readiness.new.self) (feeder_state (g.W.Sending.history c.readiness.new.self) started) heard done later c.polls.served c.polls.waiting (g.P.BookPort.port c.polls.book) (g.C.Clock.readings c.polls.clock) l.0 c.poll_turn-reply.result.reply c.poll_turn-reply.result.left next more l.1 is in
    let deed = turn_deed fed (start_of c.args.desk.now before) before.output octets c.polls.recv (g.W.Sending.progress c.readiness.new.self) (feeder_state (g.W.Sending.history c.readiness.new.self) started) heard done later c.polls.served c.polls.waiting (g.P.BookPort.port c.polls.book) (g.C.Clock.readings c.polls.clock) l.0 c.poll_turn-reply.result.reply c.poll_turn-reply.result.left next more l.1 is in
    c.in-Err-say_turn.ensures.says fed (start_of c.args.desk.now before) before.output octets started heard [] (standing_of next _ more (l.0.round ++ deed ∷ [])) theirs l.0.behind stood

pub polls-preserved : goal.polls-preserved
polls-preserved g c =
    let is = c.in-Ok-Free.field-0-is in
    let same : c.in-Ok-Free.field-0 ≡ Free = cc in
    let looked = c.in-Ok-Free.is ∙ ap Ok same in
    let left = subst (λ (o : Option Served). IfSome o (λ now. (now.stream ≡ c.polls.served.stream) × (now.call.plan ≡ c.polls.served.call.plan) × (now.polls + 1 ≡ c.polls.served.polls))) c.in-Some.is c.poll_turn-reply.ensures.left in
    record {
      turning = λ fed before octets started heard done later theirs in_mode first.
          let then = earlier fed (g.W.Sending.history c.readiness.new.self) (g.W.Sending.history c.say_turn.new.wire) c.say_turn.ensures.grown theirs in
          let t = c.polls.invariant.turning fed before octets started heard done later (earlier fed (g.W.Sending.history c.polls.wire) (g.W.Sending.history c.readiness.new.self) c.readiness.ensures.grown then) in_mode first in
          let l = turning_looked fed (g.W.Sending.history c.polls.wire) (g.W.Sending.history c.readiness.new.self) (g.W.Sending.progress c.polls.wire) (g.W.Sending.progress c.readiness.new.self) c.polls.served.stream c.readiness.result c.readiness.ensures.reads then (start_of c.args.desk.now before) before.output octets started c.readiness.ensures.grown c.readiness.ensures.silent c.polls.recv heard c.polls.waiting done (c.polls.served ∷ later) (g.P.BookPort.port c.polls.book) (g.C.Clock.readings c.polls.clock) Free looked t in
          let is = c.poll_turn-reply.ensures.turned (c.polls.invariant.in_mode in_mode) in
          let next = g.P.BookPort.port c.poll_turn-reply.new.book in
          let more = g.C.Clock.readings c.poll_turn-reply.new.clock in
          let stood = has_turned fed (start_of c.args.desk.now before) before.output octets c.polls.recv (g.W.Sending.progress c.readiness.new.self) (feeder_state (g.W.Sending.history c.readiness.new.self) started) heard done later c.polls.served c.polls.waiting (g.P.BookPort.port c.polls.book) (g.C.Clock.readings c.polls.clock) l.0 c.poll_turn-reply.result.reply c.poll_turn-reply.result.left next more l.1 is in
          let deed = turn_deed fed (start_of c.args.desk.now before) before.output octets c.polls.recv (g.W.Sending.progress c.readiness.new.self) (feeder_state (g.W.Sending.history c.readiness.new.self) started) heard done later c.polls.served c.polls.waiting (g.P.BookPort.port c.polls.book) (g.C.Clock.readings c.polls.clock) l.0 c.poll_turn-reply.result.reply c.poll_turn-reply.result.left next more l.1 is in
          goes_on_so fed (start_of c.args.desk.now before) before.output octets c.polls.recv (g.W.Sending.progress c.readiness.new.self) (feeder_state (g.W.Sending.history c.readiness.new.self) started) heard done later c.polls.served c.polls.waiting (g.P.BookPort.port c.polls.book) (g.C.Clock.readings c.polls.clock) l.0 c.poll_turn-reply.result.reply c.poll_turn-reply.result.left next more l.1 is
          c.say_turn.new.recv (g.W.Sending.progress c.say_turn.new.wire) (feeder_state (g.W.Sending.history c.say_turn.new.wire) started) c.in-Ok.rest (λ others are. c.in-Ok.ensures.keeps fed before.output others theirs l.0.stands.writing are) (c.in-Ok.ensures.behind fed before.output theirs l.0.stands.writing l.0.behind)
          (c.in-Ok.ensures.says fed (start_of c.args.desk.now before) before.output octets started heard [] (standing_of next _ more (l.0.round ++ deed ∷ [])) theirs l.0.behind stood) c.in-Some.left c.in-Some.is (ap (λ (p : Plan). p.mode) left.1 ∙ c.polls.invariant.in_mode in_mode);
      in_mode = λ in_mode. ap (λ (p : Plan). p.mode) left.1 ∙ c.polls.invariant.in_mode in_mode;
      grown = grown_more (g.W.Sending.history c.args.wire.now) (g.W.Sending.history c.polls.wire) (g.W.Sending.history c.say_turn.new.wire) c.polls.invariant.grown (grown_more (g.W.Sending.history c.polls.wire) (g.W.Sending.history c.readiness.new.self) (g.W.Sending.history c.say_turn.new.wire) c.readiness.ensures.grown c.say_turn.ensures.grown);
      book = c.poll_turn-reply.ensures.book ∙ c.polls.invariant.book;
    }

pub returns-in-None-clause-turned : goal.returns-in-None-clause-turned
returns-in-None-clause-turned g c =
    let is = c.in-Ok-Free.field-0-is in
    let same : c.in-Ok-Free.field-0 ≡ Free = cc in
    let looked = c.in-Ok-Free.is ∙ ap Ok same in
    λ fed before octets started heard done later theirs in_mode first.
    let then = earlier fed (g.W.Sending.history c.readiness.new.self) (g.W.Sending.history c.say_turn.new.wire) c.say_turn.ensures.grown theirs in
    let t = c.polls.invariant.turning fed before octets started heard done later (earlier fed (g.W.Sending.history c.polls.wire) (g.W.Sending.history c.readiness.new.self) c.readiness.ensures.grown then) in_mode first in
    let l = turning_looked fed (g.W.Sending.history c.polls.wire) (g.W.Sending.history c.readiness.new.self) (g.W.Sending.progress c.polls.wire) (g.W.Sending.progress c.readiness.new.self) c.polls.served.stream c.readiness.result c.readiness.ensures.reads then (start_of c.args.desk.now before) before.output octets started c.readiness.ensures.grown c.readiness.ensures.silent c.polls.recv heard c.polls.waiting done (c.polls.served ∷ later) (g.P.BookPort.port c.polls.book) (g.C.Clock.readings c.polls.clock) Free looked t in
    let is = c.poll_turn-reply.ensures.turned (c.polls.invariant.in_mode in_mode) in
    let next = g.P.BookPort.port c.poll_turn-reply.new.book in
    let more = g.C.Clock.readings c.poll_turn-reply.new.clock in
    let stood = has_turned fed (start_of c.args.desk.now before) before.output octets c.polls.recv (g.W.Sending.progress c.readiness.new.self) (feeder_state (g.W.Sending.history c.readiness.new.self) started) heard done later c.polls.served c.polls.waiting (g.P.BookPort.port c.polls.book) (g.C.Clock.readings c.polls.clock) l.0 c.poll_turn-reply.result.reply c.poll_turn-reply.result.left next more l.1 is in
    let deed = turn_deed fed (start_of c.args.desk.now before) before.output octets c.polls.recv (g.W.Sending.progress c.readiness.new.self) (feeder_state (g.W.Sending.history c.readiness.new.self) started) heard done later c.polls.served c.polls.waiting (g.P.BookPort.port c.polls.book) (g.C.Clock.readings c.polls.clock) l.0 c.poll_turn-reply.result.reply c.poll_turn-reply.result.left next more l.1 is in
    ends_so fed (start_of c.args.desk.now before) before.output octets c.polls.recv (g.W.Sending.progress c.readiness.new.self) (feeder_state (g.W.Sending.history c.readiness.new.self) started) heard done later c.polls.served c.polls.waiting (g.P.BookPort.port c.polls.book) (g.C.Clock.readings c.polls.clock) l.0 c.poll_turn-reply.result.reply c.poll_turn-reply.result.left next more l.1 is
    c.say_turn.new.recv (g.W.Sending.progress c.say_turn.new.wire) (feeder_state (g.W.Sending.history c.say_turn.new.wire) started) c.in-Ok.rest (λ others are. c.in-Ok.ensures.keeps fed before.output others theirs l.0.stands.writing are) (c.in-Ok.ensures.behind fed before.output theirs l.0.stands.writing l.0.behind)
    (c.in-Ok.ensures.says fed (start_of c.args.desk.now before) before.output octets started heard [] (standing_of next _ more (l.0.round ++ deed ∷ [])) theirs l.0.behind stood) c.in-None.is
