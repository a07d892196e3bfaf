use Rattle.session_core.proofs.Subscribing.{end_put_if}
use Rattle.session_core.proofs.answering.put_all.Goals as goal

pub returns-then-ends : goal.returns-then-ends
returns-then-ends c = end_put_if c.put.result c.args.stream c.args.messages c.args.ends c.args.waiting.now c.put_messages.new.waiting c.put.new.waiting c.if-ends.true c.in_ok-put_messages.ensures c.put.ensures
