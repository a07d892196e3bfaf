use Rattle.std.proofs.Common.{ap, ◌∙◌, option_map, length}
use Rattle.memory_disks.proofs.Fused.{fused_stopped, fused_stopped_in_write, fused_touched}
use Rattle.memory_disks.proofs.fuse.FuseDisk.stop_write.Goals as goal

-- without memory for the piece
pub invariant_of-self : goal.invariant_of-self
invariant_of-self c = fused_stopped _ _ _ _ _ _ _ _ _ _ _ _ c.args.fill (ap (λ v. v.left) c.self.view_is ∙ c.requires.0) (ap (λ v. v.arming.stopped) c.self.view_is ∙ c.requires.1) (ap (λ v. v.items) c.of.ensures) (ap (λ o. option_map (λ s. s.items) o) c.take.ensures.value) c.deref.ensures.value (c.leave_written-made.ensures.not_made c.if-not-made.true) (fused_touched _ _ _ _ _ _ _ _ c.args.place (length c.args.piece.now) c.after_write.ensures.mask c.self.invariant)

pub invariant_of-self-else-not-made : goal.invariant_of-self-else-not-made
invariant_of-self-else-not-made c = fused_stopped_in_write _ _ _ _ _ _ _ _ _ _ _ _ _ c.args.fill c.args.place c.args.piece.now (ap (λ v. v.left) c.self.view_is ∙ c.requires.0) (ap (λ v. v.arming.stopped) c.self.view_is ∙ c.requires.1) c.after_write.ensures.mask (ap (λ v. v.items) c.of.ensures) (ap (λ o. option_map (λ s. s.items) o) c.take.ensures.value) c.deref.ensures.value (c.leave_written-made.ensures.made c.if-not-made.false) c.self.invariant
