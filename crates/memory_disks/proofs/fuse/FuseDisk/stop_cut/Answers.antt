use Rattle.memory_disks.proofs.Fused.{fused_front}
use Rattle.memory_disks.proofs.fuse.FuseDisk.stop_cut.Goals as goal

pub invariant_of-self : goal.invariant_of-self
invariant_of-self c = fused_front _ _ _ _ _ _ _ _ c.args.length c.after_cut.ensures.mask c.self.invariant
