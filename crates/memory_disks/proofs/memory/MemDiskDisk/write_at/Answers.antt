use Rattle.std.proofs.Common.{length}
use Rattle.disk_model.specs.Images.{mask_after_write}
use Rattle.disk_model.proofs.Images.{image_of_touched, image_of_written}
use Rattle.memory_disks.proofs.Laid.{wrote_laid}
use Rattle.memory_disks.proofs.Views.{image_as, changed}
use Rattle.memory_disks.proofs.memory.MemDiskDisk.write_at.Goals as goal

pub invariant_of-self : goal.invariant_of-self
invariant_of-self c = image_as _ _ _ _ c.after_write.ensures.mask c.in-Ok.ensures.ok (image_of_written _ _ c.args.piece.now _ c.args.place c.self.invariant (wrote_laid c.args.place c.args.piece.now _))

pub returns-in-Ok-clause-images : goal.returns-in-Ok-clause-images
returns-in-Ok-clause-images c = changed (λ v. mask_after_write c.args.place (length c.args.piece.now) v.mask) _ _ _ _ _ c.self.view_is c.after_write.ensures.mask c.after_write.ensures.past (invariant_of-self c)

pub invariant_of-self-in-Err : goal.invariant_of-self-in-Err
invariant_of-self-in-Err c = image_as _ _ _ _ c.after_write.ensures.mask c.in-Err.ensures.err (image_of_touched _ _ c.args.place (length c.args.piece.now) c.self.invariant)

pub returns-in-Err-clause-images : goal.returns-in-Err-clause-images
returns-in-Err-clause-images c = changed (λ v. mask_after_write c.args.place (length c.args.piece.now) v.mask) _ _ _ _ _ c.self.view_is c.after_write.ensures.mask c.after_write.ensures.past (invariant_of-self-in-Err c)
