use Rattle.std.proofs.Common.{ap, ◌∙◌, option_map}
use Rattle.memory_disks.proofs.Fused.{fused_stopped}
use Rattle.memory_disks.proofs.fuse.FuseDisk.stop.Goals as goal

pub invariant_of-self : goal.invariant_of-self
invariant_of-self c = fused_stopped _ _ _ _ _ _ _ _ _ _ _ _ c.args.fill (ap (λ v. v.left) c.self.view_is ∙ c.requires.0) (ap (λ v. v.arming.stopped) c.self.view_is ∙ c.requires.1) (ap (λ v. v.items) c.of.ensures) (ap (λ o. option_map (λ s. s.items) o) c.take.ensures.value) c.deref.ensures.value c.leave.ensures c.self.invariant
