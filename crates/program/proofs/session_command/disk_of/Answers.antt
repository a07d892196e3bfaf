use Rattle.program.proofs.Sessions.{book_left}
use Rattle.program.proofs.session_command.disk_of.Goals as goal

pub returns : goal.returns
returns g c = book_left g.D.Disk.told g.D.Disk.faults c.args.port c.give.result c.end-disk.result.disk c.give.ensures c.end-disk.ensures.disk c.end-disk.ensures.run c.end-disk.ensures.risen c.end-disk.ensures.images
