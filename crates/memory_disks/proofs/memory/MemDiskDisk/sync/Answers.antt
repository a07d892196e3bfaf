use Rattle.std.proofs.Common.{sym, subst}
use Rattle.disk_model.specs.Images.{IsImage, mask_after_sync}
use Rattle.disk_model.proofs.Images.{image_self}
use Rattle.memory_disks.proofs.Views.{changed}
use Rattle.memory_disks.proofs.memory.MemDiskDisk.sync.Goals as goal

pub invariant_of-self : goal.invariant_of-self
invariant_of-self c = subst (λ m. IsImage m c.self.inside.octets.items) (sym c.after_sync.ensures.mask) (image_self c.self.inside.octets.items)

pub returns-clause-images : goal.returns-clause-images
returns-clause-images c = changed (λ v. mask_after_sync v.seen) _ _ _ _ _ c.self.view_is c.after_sync.ensures.mask c.after_sync.ensures.past (invariant_of-self c)
