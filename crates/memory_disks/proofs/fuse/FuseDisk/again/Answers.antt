use Rattle.std.proofs.Common.{ap}
use Rattle.memory_disks.proofs.Fused.{fused_settled}
use Rattle.memory_disks.proofs.fuse.FuseDisk.again.Goals as goal

pub invariant_of-result : goal.invariant_of-result
invariant_of-result c = fused_settled _ _ _ _ _ (ap (λ v. v.items) c.of.ensures) c.new.ensures.items c.start.ensures.mask
