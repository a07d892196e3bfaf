use Rattle.h2_windows.proofs.Waiting.{counted_all}
use Rattle.h2_windows.proofs.holding.held.Goals as goal

pub returns-clause-is : goal.returns-clause-is
returns-clause-is c = counted_all c.loop-stream.stream-index c.loop-stream.count c.args.streams.now c.loop-stream-test.false c.loop-stream.invariant.fits c.loop-stream.invariant.is
