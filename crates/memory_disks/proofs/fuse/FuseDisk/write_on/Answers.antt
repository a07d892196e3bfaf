use Rattle.std.proofs.Common.{ap, ◌∙◌, length}
use Rattle.memory_disks.proofs.Fused.{fused_wrote, fused_as, fused_touched}
use Rattle.memory_disks.proofs.fuse.FuseDisk.write_on.Goals as goal

pub invariant_of-self : goal.invariant_of-self
invariant_of-self c = fused_wrote _ _ _ _ _ _ _ _ _ _ _ c.args.place c.args.piece.now (ap (λ v. v.left) c.self.view_is ∙ c.requires) c.after_write.ensures.mask c.write_noted.ensures.base c.in-Ok.ensures.octets_ok c.in-Ok.ensures.written_ok c.self.invariant

pub invariant_of-self-in-Err : goal.invariant_of-self-in-Err
invariant_of-self-in-Err c = fused_as _ _ _ _ _ _ _ _ _ _ c.write_noted.ensures.base c.in-Err.ensures.octets_err c.in-Err.ensures.written_err (fused_touched _ _ _ _ _ _ _ _ c.args.place (length c.args.piece.now) c.after_write.ensures.mask c.self.invariant)
