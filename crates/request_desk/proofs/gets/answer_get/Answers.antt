use Rattle.gnmi_get_msg.specs.Asks.{get_of}
use Rattle.request_desk.proofs.Exits.{get_paths_refused, get_not_answered}
use Rattle.request_desk.proofs.gets.answer_get.Goals as goal

pub returns-in-Err-asked_paths-clause-answer : goal.returns-in-Err-asked_paths-clause-answer
returns-in-Err-asked_paths-clause-answer g c =
    get_paths_refused c.args.schema.now (get_of c.args.body.now) (g.P.BookPort.port c.args.port.now) c.args.now c.in-Ok.ask
    c.in-Err-asked_paths.refusal c.in-Ok.ensures c.in-Err-asked_paths.ensures

pub returns-clause-answer : goal.returns-clause-answer
returns-clause-answer g c =
    get_not_answered c.args.schema.now (get_of c.args.body.now) (g.P.BookPort.port c.args.port.now) (g.P.BookPort.port c.look.new.self) c.args.now
    c.in-Ok.ask c.in-Ok-asked_paths.paths c.in-Ok-look.view c.in-Err-reply_over.refusal c.in-Ok.ensures c.in-Ok-asked_paths.ensures
    c.in-Ok-look.ensures.once c.in-Err-reply_over.ensures.causes c.in-Err-reply_over.ensures.answer
