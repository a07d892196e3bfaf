use Rattle.std.proofs.Common.{sym, subst}
use Rattle.disk_model.specs.Images.{IsImage}
use Rattle.disk_model.proofs.Images.{image_self}
use Rattle.memory_disks.proofs.memory.MemDisk.holding.Goals as goal

pub invariant_of-result : goal.invariant_of-result
invariant_of-result c = subst (λ m. IsImage m c.args.octets.items) (sym c.start.ensures.mask) (image_self c.args.octets.items)
