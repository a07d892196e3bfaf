use Rattle.std.proofs.Common.{[]}
use Rattle.session_core.specs.Runs.{start_of}
use Rattle.session_core.specs.Serving.{standing_of}
use Rattle.session_core.specs.inner.Feeders.{feeder_state}
use Rattle.session_core.proofs.Found.{earlier}
use Rattle.session_core.proofs.Turning.{all_due, none_behind, none_is_behind, rested_if}
use Rattle.session_core.proofs.session.say_and_turn.Goals as goal

pub returns-in-Ok-clause-rests : goal.returns-in-Ok-clause-rests
returns-in-Ok-clause-rests g c = λ fed before octets started heard round theirs no_turns stands.
    let start = (start_of c.args.desk.now before) in
    let at = standing_of (g.P.BookPort.port c.args.calls.now.book) c.args.kept.calls (g.C.Clock.readings c.args.calls.now.clock) round in
    let then = earlier fed (g.W.Sending.history c.say_all.new.wire) (g.W.Sending.history c.take_turns.new.wire) c.take_turns.ensures.grown theirs in
    let first = none_is_behind (g.W.Sending.progress c.args.wire.now).inputs c.empty-none.result c.empty-none.ensures in
    let said = c.in-Ok.ensures.says fed start before.output octets started heard [] at then first (none_behind fed start before.output octets c.args.recv.now (g.W.Sending.progress c.args.wire.now) (feeder_state (g.W.Sending.history c.args.wire.now) started) heard c.empty-none.result c.args.kept.waiting at c.empty-none.ensures stands) in
    let due = all_due fed start before.output octets c.say_all.new.recv (g.W.Sending.progress c.say_all.new.wire) (feeder_state (g.W.Sending.history c.say_all.new.wire) started) heard c.in-Ok.waiting at no_turns (c.in-Ok.ensures.behind fed before.output then stands.writing first) said in
    rested_if fed start before.output octets c.take_turns.new.recv (g.W.Sending.progress c.take_turns.new.wire) (feeder_state (g.W.Sending.history c.take_turns.new.wire) started) heard c.take_turns.result (λ kept. kept.waiting) (λ kept. kept.calls) _ (g.P.BookPort.port c.take_turns.new.book) (g.C.Clock.readings c.take_turns.new.clock)
    (c.take_turns.ensures.turned fed before octets started heard theirs due)

pub returns-in-Err-clause-rests : goal.returns-in-Err-clause-rests
returns-in-Err-clause-rests g c = λ fed before octets started heard round theirs no_turns stands.
    let at = standing_of (g.P.BookPort.port c.args.calls.now.book) c.args.kept.calls (g.C.Clock.readings c.args.calls.now.clock) round in
    c.in-Err.ensures.says fed (start_of c.args.desk.now before) before.output octets started heard [] at theirs (none_is_behind (g.W.Sending.progress c.args.wire.now).inputs c.empty-none.result c.empty-none.ensures)
    (none_behind fed (start_of c.args.desk.now before) before.output octets c.args.recv.now (g.W.Sending.progress c.args.wire.now) (feeder_state (g.W.Sending.history c.args.wire.now) started) heard c.empty-none.result c.args.kept.waiting at c.empty-none.ensures stands)
