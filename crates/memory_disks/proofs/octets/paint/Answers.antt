use Rattle.std.proofs.Common.{arith}
use Rattle.memory_disks.proofs.Laid.{painted_is, painted_past}
use Rattle.memory_disks.proofs.octets.paint.Goals as goal

pub returns-then-start-len : goal.returns-then-start-len
returns-then-start-len c = painted_is _ _ _ _ _ _ (omega arith) c.fill.ensures

pub returns-else-start-len : goal.returns-else-start-len
returns-else-start-len c = painted_past _ _ _ _ (omega arith)
