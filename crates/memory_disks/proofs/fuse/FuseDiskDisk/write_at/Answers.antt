use Rattle.memory_disks.proofs.Stopping.{write_images, write_cause}
use Rattle.memory_disks.proofs.fuse.FuseDiskDisk.write_at.Goals as goal

pub returns-clause-images : goal.returns-clause-images
returns-clause-images c = write_images _ c.args.place c.args.piece.now _ c.args.self.now c.outcome-outcome.new.self c.write_as.new.self c.outcome-outcome.ensures.called c.write_as.ensures c.outcome-outcome.ensures.image

pub returns-clause-cause : goal.returns-clause-cause
returns-clause-cause c = write_cause _ c.args.place c.args.piece.now _ c.args.self.now c.outcome-outcome.new.self c.write_as.new.self c.outcome-outcome.ensures.called c.write_as.ensures
