use Rattle.std.proofs.Common.{ap, ◌∙◌, refl, option_map, Some}
use Rattle.memory_disks.specs.inner.Kept.{base_of}
use Rattle.memory_disks.proofs.Fused.{fused_cut, fused_as, fused_front}
use Rattle.memory_disks.proofs.fuse.FuseDisk.cut_on.Goals as goal

pub invariant_of-self : goal.invariant_of-self
invariant_of-self c = fused_cut _ _ _ _ _ _ _ _ _ _ c.args.length (ap (λ v. v.left) c.self.view_is ∙ c.requires) c.after_cut.ensures.mask (c.in-Ok.ensures.ok ∙ ap (λ o. Some (base_of (option_map (λ s. s.items) c.self.inside.safe) o)) c.deref.ensures.value) c.truncate.ensures.items c.self.invariant

pub invariant_of-self-in-Err : goal.invariant_of-self-in-Err
invariant_of-self-in-Err c = fused_as _ _ _ _ _ _ _ _ _ _ (ap (λ o. base_of (option_map (λ s. s.items) o) c.self.inside.octets.items) c.in-Err.ensures.err) refl refl (fused_front _ _ _ _ _ _ _ _ c.args.length c.after_cut.ensures.mask c.self.invariant)
