use Rattle.std.proofs.Common.{take}
use Rattle.disk_model.proofs.Images.{image_of_cut}
use Rattle.memory_disks.proofs.Views.{image_as, changed}
use Rattle.memory_disks.proofs.memory.MemDiskDisk.cut.Goals as goal

pub invariant_of-self : goal.invariant_of-self
invariant_of-self c = image_as _ _ _ _ c.after_cut.ensures.mask c.truncate.ensures.items (image_of_cut _ _ c.args.length c.self.invariant)

pub returns-clause-images : goal.returns-clause-images
returns-clause-images c = changed (λ v. take c.args.length v.mask) _ _ _ _ _ c.self.view_is c.after_cut.ensures.mask c.after_cut.ensures.past (invariant_of-self c)
