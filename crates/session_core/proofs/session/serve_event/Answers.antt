use Rattle.std.proofs.Common.{refl, List, [], ◌∷◌, ◌++◌, subst, sym, ap, Some, ◌∙◌}
use Rattle.h2_streams.specs.Calls.{read}
use Rattle.h2_send.specs.Port.{Progress}
use Rattle.grpc_requests.specs.declared.request.Request.{Request}
use Rattle.stream_workers.specs.Feeders.{Started}
use Rattle.session_core.specs.declared.how.How.{How}
use Rattle.session_core.specs.declared.how.How.TheVariants as hows
use Rattle.session_core.specs.Runs.{start_of}
use Rattle.session_core.specs.Serving.{standing_of}
use Rattle.session_core.specs.inner.Feeders.{AreOfFeeders, feeder_state}
use Rattle.session_core.specs.inner.Places.{HasEnded, Stands, place_of}
use Rattle.session_core.specs.inner.Sending.{WireHistory, HasGrown}
use Rattle.session_core.proofs.Found.{earlier, grown_more}
use Rattle.session_core.proofs.Steps.{act_ends, acts_on, come_open, hears_none, stands_then}
use Rattle.session_core.proofs.session.serve_event.Goals as goal

pub returns-in-Err-clause-serves : goal.returns-in-Err-clause-serves
returns-in-Err-clause-serves g c = λ fed before octets round then come.
    let start = (start_of c.args.desk.now before) in
    let here = standing_of (g.P.BookPort.port c.args.calls.now.book) c.args.kept.calls (g.C.Clock.readings c.args.calls.now.clock) round in
    subst (λ (how : How). HasEnded how fed start octets before.output (g.W.Sending.progress c.act.new.self) (feeder_state (g.W.Sending.history c.act.new.self) (g.H.Handing.feeding c.args.calls.now.feeders).started) (g.P.BookPort.port c.args.calls.now.book) (g.C.Clock.readings c.args.calls.now.clock)) (sym c.how_of.ensures.is)
    (act_ends fed start before.output octets c.args.event.now (g.W.Sending.history c.args.wire.now) (g.W.Sending.history c.act.new.self) (g.W.Sending.progress c.args.wire.now) (g.W.Sending.progress c.act.new.self) c.act.result c.act.ensures.acts c.act.ensures.grown c.act.ensures.silent then (g.H.Handing.feeding c.args.calls.now.feeders).started c.args.recv.now c.args.calls.now.table c.args.kept.waiting here come c.in-Err.fault c.in-Err.is)

pub returns-in-Ok-hear-clause-serves : goal.returns-in-Ok-hear-clause-serves
returns-in-Ok-hear-clause-serves g c = λ fed before octets round theirs come.
    let start = (start_of c.args.desk.now before) in
    let here = standing_of (g.P.BookPort.port c.args.calls.now.book) c.args.kept.calls (g.C.Clock.readings c.args.calls.now.clock) round in
    let heard_theirs = earlier fed (g.W.Sending.history c.hear.new.wire) (g.W.Sending.history c.say_and_turn.new.wire) c.say_and_turn.ensures.grown theirs in
    let then = subst (λ (b : WireHistory). AreOfFeeders fed b) c.in-Ok-hear.ensures.history heard_theirs in
    let opened = come_open fed start before.output octets c.args.event.now (g.W.Sending.history c.args.wire.now) (g.W.Sending.history c.act.new.self) (g.W.Sending.progress c.args.wire.now) (g.W.Sending.progress c.act.new.self) c.act.result c.act.ensures.acts c.act.ensures.grown c.act.ensures.silent then (g.H.Handing.feeding c.args.calls.now.feeders).started c.args.recv.now c.args.calls.now.table c.args.kept.waiting here come c.in-Ok.is in
    let moments = opened.0.moments ++ read opened.0.frame (Some c.args.event.now) ∷ [] in
    let heard = c.in-Ok-hear.ensures.hears fed before moments (g.W.Sending.progress c.act.new.self).inputs
    (λ (owed : List Request) grown. record { round = []; no_turns = λ s. refl; served = acts_on fed start before.output octets c.args.event.now (feeder_state (g.W.Sending.history c.act.new.self) (g.H.Handing.feeding c.args.calls.now.feeders).started) c.args.recv.now c.act.ensures.acts.found (g.W.Sending.progress c.act.new.self) c.args.calls.now.table c.args.kept.waiting here opened.0 opened.1 owed grown }) in
    let next = standing_of (g.P.BookPort.port c.hear.new.calls.book) c.in-Ok-hear.kept.calls (g.C.Clock.readings c.hear.new.calls.clock) heard.round in
    let stands = stands_then fed start before.output octets c.args.event.now (feeder_state (g.W.Sending.history c.act.new.self) (g.H.Handing.feeding c.args.calls.now.feeders).started) c.args.recv.now c.act.ensures.acts.found (g.W.Sending.progress c.act.new.self) (feeder_state (g.W.Sending.history c.hear.new.wire) (g.H.Handing.feeding c.hear.new.calls.feeders).started) c.args.calls.now.table c.say_and_turn.new.calls.table c.args.kept.waiting c.in-Ok-hear.kept.waiting here next opened.0 opened.1 (c.say_and_turn.ensures.table ∙ c.in-Ok-hear.ensures.heard) heard.served in
    let moved = subst (λ (p : Progress). Stands fed start before.output octets (place_of c.args.recv.now p (feeder_state (g.W.Sending.history c.hear.new.wire) (g.H.Handing.feeding c.hear.new.calls.feeders).started) c.say_and_turn.new.calls.table c.in-Ok-hear.kept.waiting [] next)) (sym c.in-Ok-hear.ensures.wire) stands in
    let same = ap (λ feeders. (g.H.Handing.feeding feeders).started) c.say_and_turn.ensures.feeders in
    c.say_and_turn.ensures.rests fed before octets (g.H.Handing.feeding c.say_and_turn.new.calls.feeders).started c.say_and_turn.new.calls.table heard.round theirs heard.no_turns
    (subst (λ (all : List Started). Stands fed start before.output octets (place_of c.args.recv.now (g.W.Sending.progress c.hear.new.wire) (feeder_state (g.W.Sending.history c.hear.new.wire) all) c.say_and_turn.new.calls.table c.in-Ok-hear.kept.waiting [] next)) (sym same) moved)

pub returns-in-Ok-hear-clause-grown : goal.returns-in-Ok-hear-clause-grown
returns-in-Ok-hear-clause-grown g c =
    grown_more (g.W.Sending.history c.args.wire.now) (g.W.Sending.history c.act.new.self) (g.W.Sending.history c.say_and_turn.new.wire) c.act.ensures.grown
    (subst (λ (b : WireHistory). HasGrown b (g.W.Sending.history c.say_and_turn.new.wire)) c.in-Ok-hear.ensures.history c.say_and_turn.ensures.grown)

pub returns-in-Err-hear-clause-serves : goal.returns-in-Err-hear-clause-serves
returns-in-Err-hear-clause-serves g c = λ fed before octets round heard_theirs come.
    let start = (start_of c.args.desk.now before) in
    let here = standing_of (g.P.BookPort.port c.args.calls.now.book) c.args.kept.calls (g.C.Clock.readings c.args.calls.now.clock) round in
    let then = subst (λ (b : WireHistory). AreOfFeeders fed b) c.in-Err-hear.ensures.history heard_theirs in
    let opened = come_open fed start before.output octets c.args.event.now (g.W.Sending.history c.args.wire.now) (g.W.Sending.history c.act.new.self) (g.W.Sending.progress c.args.wire.now) (g.W.Sending.progress c.act.new.self) c.act.result c.act.ensures.acts c.act.ensures.grown c.act.ensures.silent then (g.H.Handing.feeding c.args.calls.now.feeders).started c.args.recv.now c.args.calls.now.table c.args.kept.waiting here come c.in-Ok.is in
    let moments = opened.0.moments ++ read opened.0.frame (Some c.args.event.now) ∷ [] in
    let partly = c.in-Err-hear.ensures.hears fed before moments (g.W.Sending.progress c.act.new.self).inputs
    (λ (owed : List Request) grown. record { round = []; no_turns = λ s. refl; served = acts_on fed start before.output octets c.args.event.now (feeder_state (g.W.Sending.history c.act.new.self) (g.H.Handing.feeding c.args.calls.now.feeders).started) c.args.recv.now c.act.ensures.acts.found (g.W.Sending.progress c.act.new.self) c.args.calls.now.table c.args.kept.waiting here opened.0 opened.1 owed grown }) in
    let next = standing_of (g.P.BookPort.port c.hear.new.calls.book) partly.calls (g.C.Clock.readings c.hear.new.calls.clock) partly.at.round in
    subst (λ (p : Progress). HasEnded hows.NoMemory fed start octets before.output p (feeder_state (g.W.Sending.history c.hear.new.wire) (g.H.Handing.feeding c.hear.new.calls.feeders).started) next.port next.readings) (sym c.in-Err-hear.ensures.wire)
    (hears_none fed start before.output octets c.args.event.now (feeder_state (g.W.Sending.history c.act.new.self) (g.H.Handing.feeding c.args.calls.now.feeders).started) c.args.recv.now c.act.ensures.acts.found (g.W.Sending.progress c.act.new.self) (feeder_state (g.W.Sending.history c.hear.new.wire) (g.H.Handing.feeding c.hear.new.calls.feeders).started) c.args.calls.now.table c.args.kept.waiting partly.waiting partly.owed here next opened.0 opened.1 partly.at.served)
