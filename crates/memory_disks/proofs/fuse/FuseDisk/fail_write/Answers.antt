use Rattle.std.proofs.Common.{length}
use Rattle.memory_disks.proofs.Fused.{fused_touched}
use Rattle.memory_disks.proofs.fuse.FuseDisk.fail_write.Goals as goal

pub invariant_of-self : goal.invariant_of-self
invariant_of-self c = fused_touched _ _ _ _ _ _ _ _ c.args.place (length c.args.piece.now) c.after_write.ensures.mask c.self.invariant
