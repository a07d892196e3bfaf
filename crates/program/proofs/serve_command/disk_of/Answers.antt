use Rattle.std.proofs.Common.{subst}
use Rattle.shared_book.specs.Visits.{GivesBack}
use Rattle.program.proofs.BookLeft.{book_left}
use Rattle.program.proofs.serve_command.disk_of.Goals as goal

pub returns : goal.returns
returns g c =
    let gives = subst (λ port. GivesBack port c.finish.result) c.give.ensures c.finish.ensures in
    book_left g.D.Disk.told g.D.Disk.faults c.args.port c.finish.result c.end-disk.result.disk gives c.end-disk.ensures.disk c.end-disk.ensures.run c.end-disk.ensures.risen c.end-disk.ensures.images
