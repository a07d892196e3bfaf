use Rattle.memory_disks.proofs.Stopping.{synced_changes}
use Rattle.memory_disks.proofs.fuse.FuseDiskDisk.sync.Goals as goal

pub returns-clause-images : goal.returns-clause-images
returns-clause-images c = synced_changes c.args.self.now c.pass.new.self c.sync_on.new.self c.in_ok-pass.ensures.called c.sync_on.ensures
