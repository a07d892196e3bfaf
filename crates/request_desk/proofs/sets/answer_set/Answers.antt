use Rattle.gnmi_set_msg.specs.Requests.{request_of}
use Rattle.request_desk.proofs.Exits.{set_refused}
use Rattle.request_desk.proofs.sets.answer_set.Goals as goal

pub returns-in-Err-set-clause-answer : goal.returns-in-Err-set-clause-answer
returns-in-Err-set-clause-answer g c =
    set_refused c.args.schema.now (request_of c.args.body.now) (g.P.BookPort.port c.args.port.now) (g.P.BookPort.port c.set.new.self) c.args.now c.in-Ok.ask
    c.in-Ok-reply_front.front.items c.in-Err-set.refusal c.in-Ok.ensures.answer c.in-Ok-reply_front.ensures.answer c.in-Err-set.ensures.once
