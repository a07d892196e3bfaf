use Rattle.std.proofs.Common.{ap, ◌∙◌}
use Rattle.memory_disks.proofs.Fused.{fused_synced}
use Rattle.memory_disks.proofs.fuse.FuseDisk.sync_on.Goals as goal

pub invariant_of-self : goal.invariant_of-self
invariant_of-self c = fused_synced _ _ _ _ _ _ _ _ _ _ (ap (λ v. v.left) c.self.view_is ∙ c.requires) (ap (λ v. v.items) c.of.ensures) c.clear.ensures.items c.after_sync.ensures.mask c.self.invariant
