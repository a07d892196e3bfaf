use Rattle.h2_windows.specs.Streams.{granted_to}
use Rattle.h2_windows.proofs.Mapped.{set_mapped}
use Rattle.h2_windows.proofs.streams.grant.Goals as goal

pub loop-stream-preserved : goal.loop-stream-preserved
loop-stream-preserved c = set_mapped (granted_to c.args.id c.args.increment) c.loop-stream.streams c.args.streams.now c.loop-stream.stream-index c.stream-item.result _ c.loop-stream-test.true c.loop-stream.invariant c.grant_to.ensures
