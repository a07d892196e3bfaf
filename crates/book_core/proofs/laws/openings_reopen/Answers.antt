use Rattle.book_core.proofs.OpeningStops.{openings_leave, openings_reopen, books_reopen_again, calls_reopen_again}
use Rattle.book_core.proofs.laws.openings_reopen.Goals as goal

pub returns-clause-leave : goal.returns-clause-leave
returns-clause-leave g c = openings_leave g.row.T.Denot g.D.Disk.told g.D.Disk.faults g.D.Disk.fuse

pub returns-clause-openings : goal.returns-clause-openings
returns-clause-openings g c = openings_reopen g.row.T.Denot g.D.Disk.told g.D.Disk.faults g.D.Disk.fuse

pub returns-clause-books : goal.returns-clause-books
returns-clause-books g c = books_reopen_again g.row.T.Denot g.D.Disk.told g.D.Disk.faults g.D.Disk.fuse

pub returns-clause-calls : goal.returns-clause-calls
returns-clause-calls g c = calls_reopen_again g.row.T.Denot g.D.Disk.told g.D.Disk.faults g.D.Disk.fuse
