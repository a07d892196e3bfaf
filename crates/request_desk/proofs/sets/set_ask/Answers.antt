use Rattle.gnmi_set_msg.specs.Requests.{request_of}
use Rattle.request_desk.proofs.Fronts.{resolved_so}
use Rattle.request_desk.proofs.sets.set_ask.Goals as goal

pub returns-in-Ok-clause-answer : goal.returns-in-Ok-clause-answer
returns-in-Ok-clause-answer c =
    resolved_so c.args.schema.now (request_of c.args.body.now) c.in-Ok.ask c.resolve.result c.in-Ok.ensures c.resolve.ensures.answer
