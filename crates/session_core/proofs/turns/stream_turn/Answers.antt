use Rattle.std.proofs.Common.{sym, ◌∙◌}
use Rattle.std.proofs.lemmas.Bool.{false≢true}
use Rattle.session_core.proofs.CallTurns.{stream_says, stream_tries_again, stream_ends}
use Rattle.session_core.proofs.turns.stream_turn.Goals as goal

pub returns-in-Ok-clause-turned : goal.returns-in-Ok-clause-turned
returns-in-Ok-clause-turned g c = λ in_mode.
    stream_says c.args.desk.now c.args.served (g.P.BookPort.port c.args.book.now) (g.P.BookPort.port c.turn.new.port) (g.C.Clock.readings c.args.clock.now) (g.C.Clock.readings c.now-now.new.self) c.now-now.result c.turn.new.self c.in-Ok.messages c.schema.result.now c.turn.result in_mode c.schema.ensures c.turn.ensures c.now-now.ensures c.in-Ok.is

pub returns-then-is_disk_fault-clause-turned : goal.returns-then-is_disk_fault-clause-turned
returns-then-is_disk_fault-clause-turned g c = λ in_mode.
    stream_tries_again c.args.desk.now c.args.served (g.P.BookPort.port c.args.book.now) (g.P.BookPort.port c.turn.new.port) (g.C.Clock.readings c.args.clock.now) (g.C.Clock.readings c.now-now.new.self) c.now-now.result c.turn.new.self c.in-Err.refusal c.schema.result.now c.turn.result in_mode c.schema.ensures c.turn.ensures c.now-now.ensures c.in-Err.is (c.is_disk_fault.ensures.0 c.if-is_disk_fault.true)

pub returns-else-is_disk_fault-clause-turned : goal.returns-else-is_disk_fault-clause-turned
returns-else-is_disk_fault-clause-turned g c = λ in_mode.
    stream_ends c.args.desk.now c.args.served (g.P.BookPort.port c.args.book.now) (g.P.BookPort.port c.turn.new.port) (g.C.Clock.readings c.args.clock.now) (g.C.Clock.readings c.now-now.new.self) c.now-now.result c.turn.new.self c.in-Err.refusal c.schema.result.now c.turn.result in_mode c.schema.ensures c.turn.ensures c.now-now.ensures c.in-Err.is (λ is. false≢true (sym c.if-is_disk_fault.false ∙ c.is_disk_fault.ensures.1 is))
