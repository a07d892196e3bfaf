use Rattle.std.proofs.Common.{rules}
use Rattle.subscribe_calls.proofs.Turning.{said_anew}
use Rattle.subscribe_calls.proofs.call.SubscribeCall.poll.Goals as goal

-- src/call.rt:191:5
pub returns-in-Ok-say_anew : goal.returns-in-Ok-say_anew
returns-in-Ok-say_anew g c =
    said_anew c.args.schema.now c.args.now c.args.self.now.plan (g.P.BookPort.port c.args.port.now) (g.P.BookPort.port c.look.new.self)
    c.in-Ok.view c.in-Ok-say_anew.messages (search rules) (search rules)
