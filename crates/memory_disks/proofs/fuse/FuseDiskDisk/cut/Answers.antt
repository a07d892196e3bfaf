use Rattle.memory_disks.proofs.Stopping.{cut_images, cut_cause}
use Rattle.memory_disks.proofs.fuse.FuseDiskDisk.cut.Goals as goal

pub returns-clause-images : goal.returns-clause-images
returns-clause-images c = cut_images _ c.args.length _ c.args.self.now c.outcome-outcome.new.self c.cut_as.new.self c.outcome-outcome.ensures.called c.cut_as.ensures c.outcome-outcome.ensures.image

pub returns-clause-cause : goal.returns-clause-cause
returns-clause-cause c = cut_cause _ c.args.length _ c.args.self.now c.outcome-outcome.new.self c.cut_as.new.self c.outcome-outcome.ensures.called c.cut_as.ensures
