use Rattle.session_core.proofs.CallTurns.{polls_end, polls_go_on, poll_refused, not_last, more_wait}
use Rattle.session_core.proofs.turns.poll_turn.Goals as goal
use Rattle.session_core.proofs.turns.poll_turn.Goals.{else-left-eq0-via-then-left-eq0+else-served, else-left-eq0-via-else-left-eq0}

pub returns-then-served-clause-turned : goal.returns-then-served-clause-turned
returns-then-served-clause-turned g c = λ in_mode.
    polls_end c.args.desk.now c.args.served (g.P.BookPort.port c.args.book.now) (g.P.BookPort.port c.poll.new.port) (g.C.Clock.readings c.args.clock.now) (g.C.Clock.readings c.now-now.new.self) c.now-now.result c.in-Ok.messages c.schema.result.now c.poll.result in_mode c.schema.ensures c.poll.ensures c.now-now.ensures c.requires c.in-Ok.is c.if-left-eq0.true c.if-served.true

pub returns-in-Err-clause-turned : goal.returns-in-Err-clause-turned
returns-in-Err-clause-turned g c = λ in_mode.
    poll_refused c.args.desk.now c.args.served (g.P.BookPort.port c.args.book.now) (g.P.BookPort.port c.poll.new.port) (g.C.Clock.readings c.args.clock.now) (g.C.Clock.readings c.now-now.new.self) c.now-now.result c.in-Err.refusal c.schema.result.now c.poll.result in_mode c.schema.ensures c.poll.ensures c.now-now.ensures c.requires c.in-Err.is

pub returns-else-left-eq0-clause-turned : goal.returns-else-left-eq0-clause-turned
returns-else-left-eq0-clause-turned g c = λ in_mode.
    polls_go_on c.args.desk.now c.args.served (g.P.BookPort.port c.args.book.now) (g.P.BookPort.port c.poll.new.port) (g.C.Clock.readings c.args.clock.now) (g.C.Clock.readings c.now-now.new.self) c.now-now.result c.in-Ok.messages c.schema.result.now c.poll.result in_mode c.schema.ensures c.poll.ensures c.now-now.ensures c.requires c.in-Ok.is
    (elim c.else-left-eq0.branch [ else-left-eq0-via-then-left-eq0+else-served w ↦ not_last c.args.served _ w.if-served.false | else-left-eq0-via-else-left-eq0 w ↦ more_wait c.args.served _ w.if-left-eq0.false ])
