use Rattle.std.proofs.Common.{refl, sym, ap}
use Rattle.session_core.specs.Deeds.{said_once}
use Rattle.session_core.proofs.Subscribing.{starved, once_turned}
use Rattle.session_core.proofs.answering.answer_once.Goals as goal

pub returns-in-Err-clause-replied : goal.returns-in-Err-clause-replied
returns-in-Err-clause-replied g c = λ stream body calls is in_mode. starved c.args.desk.now stream body (g.P.BookPort.port c.args.book.now) (g.P.BookPort.port c.args.book.now) calls (g.C.Clock.readings c.args.clock.now) (g.C.Clock.readings c.args.clock.now) refl refl

pub returns-in-Ok-turn-clause-replied : goal.returns-in-Ok-turn-clause-replied
returns-in-Ok-turn-clause-replied g c = λ stream body calls is in_mode.
    once_turned c.args.desk.now stream body (g.P.BookPort.port c.args.book.now) (g.P.BookPort.port c.turn.new.port) calls (g.C.Clock.readings c.args.clock.now) (g.C.Clock.readings c.now-now.new.self) c.args.plan c.schema.result.now c.in-Ok.call c.now-now.result c.turn.new.self c.turn.result _
    is in_mode c.schema.ensures c.in-Ok.ensures c.turn.ensures c.now-now.ensures (ap said_once (sym c.in-Ok-turn.is))

pub returns-clause-replied : goal.returns-clause-replied
returns-clause-replied g c = λ stream body calls is in_mode.
    once_turned c.args.desk.now stream body (g.P.BookPort.port c.args.book.now) (g.P.BookPort.port c.turn.new.port) calls (g.C.Clock.readings c.args.clock.now) (g.C.Clock.readings c.now-now.new.self) c.args.plan c.schema.result.now c.in-Ok.call c.now-now.result c.turn.new.self c.turn.result _
    is in_mode c.schema.ensures c.in-Ok.ensures c.turn.ensures c.now-now.ensures (ap said_once (sym c.in-Err-turn.is))
