use Rattle.std.proofs.Common.{◌-◌}
use Rattle.journal_record.proofs.Loops.{goes_on, ends, is_done}
use Rattle.journal_record.proofs.part.many.Goals as goal

pub returns-in-Err : goal.returns-in-Err
returns-in-Err g c = ends c.in-Err.fault g.T.Part.at c.loop.parts c.args.count c.loop.counter c.loop.rest.now _ c.loop-test.true c.in-Err.ensures c.loop.invariant

pub loop-preserved : goal.loop-preserved
loop-preserved g c = rw c.in-Ok-push.ensures.ok (goes_on g.T.Part.at c.loop.parts c.args.count c.loop.counter c.loop.rest.now c.in-Ok.part c.in-Ok.after.now _ c.loop-test.true c.in-Ok.ensures c.loop.invariant)

pub returns : goal.returns
returns g c = is_done g.T.Part.at c.loop.parts c.args.count c.loop.counter c.loop.rest.now _ c.loop-test.false c.loop.invariant
