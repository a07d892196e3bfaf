use Rattle.session_core.proofs.Subscribing.{one_put}
use Rattle.session_core.proofs.answering.put_messages.Goals as goal

pub loop-octets-preserved : goal.loop-octets-preserved
loop-octets-preserved c =
    one_put c.args.stream c.in-Some.octets c.loop-octets.octets-iterator.rest.items c.next.new.self.rest.items c.args.waiting.now c.loop-octets.waiting c.put.new.waiting c.args.messages
    c.in-Some.ensures.steps.0 c.in_ok-put.ensures c.loop-octets.invariant
