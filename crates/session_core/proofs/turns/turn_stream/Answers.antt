use Rattle.std.proofs.Common.{◌≡◌, ◌∷◌, [], ◌++◌, sym, ap, ◌∙◌, subst, Ok}
use Rattle.h2_events.specs.declared.port.Ready.TheVariants.{Gone, Busy, Free}
use Rattle.session_core.specs.declared.how.How.{How}
use Rattle.session_core.specs.Runs.{start_of}
use Rattle.session_core.specs.Serving.{standing_of}
use Rattle.session_core.specs.inner.Feeders.{feeder_state}
use Rattle.session_core.specs.inner.Places.{HasEnded}
use Rattle.session_core.proofs.Found.{earlier}
use Rattle.session_core.proofs.Looking.{turning_ends, turning_looked}
use Rattle.session_core.proofs.Turning.{is_busy, is_gone, has_turned, turn_deed, left_so}
use Rattle.session_core.proofs.turns.turn_stream.Goals as goal

pub returns-in-Err-clause-turned : goal.returns-in-Err-clause-turned
returns-in-Err-clause-turned g c = λ fed before octets started heard done later theirs in_mode t.
    subst (λ (how : How). HasEnded how fed (start_of c.args.desk.now before) octets before.output (g.W.Sending.progress c.readiness.new.self) (feeder_state (g.W.Sending.history c.readiness.new.self) started) (g.P.BookPort.port c.args.book.now) (g.C.Clock.readings c.args.clock.now)) (sym c.how_of.ensures.is)
    (turning_ends fed (g.W.Sending.history c.args.wire.now) (g.W.Sending.history c.readiness.new.self) (g.W.Sending.progress c.args.wire.now) (g.W.Sending.progress c.readiness.new.self) c.args.served.stream c.readiness.result c.readiness.ensures.reads theirs (start_of c.args.desk.now before) before.output octets started c.readiness.ensures.grown c.readiness.ensures.silent c.args.recv.now heard c.args.waiting done (c.args.served ∷ later) (g.P.BookPort.port c.args.book.now) (g.C.Clock.readings c.args.clock.now) c.in-Err.fault c.in-Err.is t)

pub returns-in-Ok-Gone-clause-turned : goal.returns-in-Ok-Gone-clause-turned
returns-in-Ok-Gone-clause-turned g c =
    let is = c.in-Ok-Gone.field-0-is in
    let same : c.in-Ok-Gone.field-0 ≡ Gone = cc in
    let looked = c.in-Ok-Gone.is ∙ ap Ok same in
    λ fed before octets started heard done later theirs in_mode t.
    let l = turning_looked fed (g.W.Sending.history c.args.wire.now) (g.W.Sending.history c.readiness.new.self) (g.W.Sending.progress c.args.wire.now) (g.W.Sending.progress c.readiness.new.self) c.args.served.stream c.readiness.result c.readiness.ensures.reads theirs (start_of c.args.desk.now before) before.output octets started c.readiness.ensures.grown c.readiness.ensures.silent c.args.recv.now heard c.args.waiting done (c.args.served ∷ later) (g.P.BookPort.port c.args.book.now) (g.C.Clock.readings c.args.clock.now) Gone looked t in
    is_gone fed (start_of c.args.desk.now before) before.output octets c.args.recv.now (g.W.Sending.progress c.readiness.new.self) (feeder_state (g.W.Sending.history c.readiness.new.self) started) heard done later c.args.served c.args.waiting (g.P.BookPort.port c.args.book.now) (g.C.Clock.readings c.args.clock.now) l.0 l.1

pub returns-in-Ok-Busy-clause-turned : goal.returns-in-Ok-Busy-clause-turned
returns-in-Ok-Busy-clause-turned g c =
    let is = c.in-Ok-Busy.field-0-is in
    let same : c.in-Ok-Busy.field-0 ≡ Busy = cc in
    let looked = c.in-Ok-Busy.is ∙ ap Ok same in
    λ fed before octets started heard done later theirs in_mode t.
    let l = turning_looked fed (g.W.Sending.history c.args.wire.now) (g.W.Sending.history c.readiness.new.self) (g.W.Sending.progress c.args.wire.now) (g.W.Sending.progress c.readiness.new.self) c.args.served.stream c.readiness.result c.readiness.ensures.reads theirs (start_of c.args.desk.now before) before.output octets started c.readiness.ensures.grown c.readiness.ensures.silent c.args.recv.now heard c.args.waiting done (c.args.served ∷ later) (g.P.BookPort.port c.args.book.now) (g.C.Clock.readings c.args.clock.now) Busy looked t in
    is_busy fed (start_of c.args.desk.now before) before.output octets c.args.recv.now (g.W.Sending.progress c.readiness.new.self) (feeder_state (g.W.Sending.history c.readiness.new.self) started) heard done later c.args.served c.args.waiting (g.P.BookPort.port c.args.book.now) (g.C.Clock.readings c.args.clock.now) l.0 l.1

pub returns-in-Ok-clause-turned : goal.returns-in-Ok-clause-turned
returns-in-Ok-clause-turned g c =
    let is = c.in-Ok-Free.field-0-is in
    let same : c.in-Ok-Free.field-0 ≡ Free = cc in
    let looked = c.in-Ok-Free.is ∙ ap Ok same in
    λ fed before octets started heard done later theirs in_mode t.
    let then = earlier fed (g.W.Sending.history c.readiness.new.self) (g.W.Sending.history c.say_turn.new.wire) c.say_turn.ensures.grown theirs in
    let l = turning_looked fed (g.W.Sending.history c.args.wire.now) (g.W.Sending.history c.readiness.new.self) (g.W.Sending.progress c.args.wire.now) (g.W.Sending.progress c.readiness.new.self) c.args.served.stream c.readiness.result c.readiness.ensures.reads then (start_of c.args.desk.now before) before.output octets started c.readiness.ensures.grown c.readiness.ensures.silent c.args.recv.now heard c.args.waiting done (c.args.served ∷ later) (g.P.BookPort.port c.args.book.now) (g.C.Clock.readings c.args.clock.now) Free looked t in
    let is = c.stream_turn-reply.ensures.turned in_mode in
    let next = g.P.BookPort.port c.stream_turn-reply.new.book in
    let more = g.C.Clock.readings c.stream_turn-reply.new.clock in
    let stood = has_turned fed (start_of c.args.desk.now before) before.output octets c.args.recv.now (g.W.Sending.progress c.readiness.new.self) (feeder_state (g.W.Sending.history c.readiness.new.self) started) heard done later c.args.served c.args.waiting (g.P.BookPort.port c.args.book.now) (g.C.Clock.readings c.args.clock.now) l.0 c.stream_turn-reply.result.reply c.stream_turn-reply.result.left next more l.1 is in
    let deed = turn_deed fed (start_of c.args.desk.now before) before.output octets c.args.recv.now (g.W.Sending.progress c.readiness.new.self) (feeder_state (g.W.Sending.history c.readiness.new.self) started) heard done later c.args.served c.args.waiting (g.P.BookPort.port c.args.book.now) (g.C.Clock.readings c.args.clock.now) l.0 c.stream_turn-reply.result.reply c.stream_turn-reply.result.left next more l.1 is in
    left_so fed (start_of c.args.desk.now before) before.output octets c.args.recv.now (g.W.Sending.progress c.readiness.new.self) (feeder_state (g.W.Sending.history c.readiness.new.self) started) heard done later c.args.served c.args.waiting (g.P.BookPort.port c.args.book.now) (g.C.Clock.readings c.args.clock.now) l.0 c.stream_turn-reply.result.reply c.stream_turn-reply.result.left next more l.1 is
    c.say_turn.new.recv (g.W.Sending.progress c.say_turn.new.wire) (feeder_state (g.W.Sending.history c.say_turn.new.wire) started) c.in-Ok.waiting (λ others are. c.in-Ok.ensures.keeps fed before.output others theirs l.0.stands.writing are) (c.in-Ok.ensures.behind fed before.output theirs l.0.stands.writing l.0.behind)
    (c.in-Ok.ensures.says fed (start_of c.args.desk.now before) before.output octets started heard [] (standing_of next _ more (l.0.round ++ deed ∷ [])) theirs l.0.behind stood)
    in_mode c.stream_turn-reply.ensures.left

pub returns-in-Err-say_turn-clause-turned : goal.returns-in-Err-say_turn-clause-turned
returns-in-Err-say_turn-clause-turned g c =
    let is = c.in-Ok-Free.field-0-is in
    let same : c.in-Ok-Free.field-0 ≡ Free = cc in
    let looked = c.in-Ok-Free.is ∙ ap Ok same in
    λ fed before octets started heard done later theirs in_mode t.
    let then = earlier fed (g.W.Sending.history c.readiness.new.self) (g.W.Sending.history c.say_turn.new.wire) c.say_turn.ensures.grown theirs in
    let l = turning_looked fed (g.W.Sending.history c.args.wire.now) (g.W.Sending.history c.readiness.new.self) (g.W.Sending.progress c.args.wire.now) (g.W.Sending.progress c.readiness.new.self) c.args.served.stream c.readiness.result c.readiness.ensures.reads then (start_of c.args.desk.now before) before.output octets started c.readiness.ensures.grown c.readiness.ensures.silent c.args.recv.now heard c.args.waiting done (c.args.served ∷ later) (g.P.BookPort.port c.args.book.now) (g.C.Clock.readings c.args.clock.now) Free looked t in
    let is = c.stream_turn-reply.ensures.turned in_mode in
    let next = g.P.BookPort.port c.stream_turn-reply.new.book in
    let more = g.C.Clock.readings c.stream_turn-reply.new.clock in
    let stood = has_turned fed (start_of c.args.desk.now before) before.output octets c.args.recv.now (g.W.Sending.progress c.readiness.new.self) (feeder_state (g.W.Sending.history c.readiness.new.self) started) heard done later c.args.served c.args.waiting (g.P.BookPort.port c.args.book.now) (g.C.Clock.readings c.args.clock.now) l.0 c.stream_turn-reply.result.reply c.stream_turn-reply.result.left next more l.1 is in
    let deed = turn_deed fed (start_of c.args.desk.now before) before.output octets c.args.recv.now (g.W.Sending.progress c.readiness.new.self) (feeder_state (g.W.Sending.history c.readiness.new.self) started) heard done later c.args.served c.args.waiting (g.P.BookPort.port c.args.book.now) (g.C.Clock.readings c.args.clock.now) l.0 c.stream_turn-reply.result.reply c.stream_turn-reply.result.left next more l.1 is in
    c.in-Err-say_turn.ensures.says fed (start_of c.args.desk.now before) before.output octets started heard [] (standing_of next _ more (l.0.round ++ deed ∷ [])) theirs l.0.behind stood
