use Rattle.book_core.proofs.Reopening.{runs_can_reopen, sound_can_reopen, journals_reopen, books_reopen, calls_reopen}
use Rattle.book_core.proofs.laws.books_reopen.Goals as goal

pub returns-clause-runs : goal.returns-clause-runs
returns-clause-runs g c = runs_can_reopen

pub returns-clause-sound : goal.returns-clause-sound
returns-clause-sound g c = sound_can_reopen

pub returns-clause-journals : goal.returns-clause-journals
returns-clause-journals g c = journals_reopen g.row.T.Denot g.D.Disk.told g.D.Disk.faults g.D.Disk.fuse

pub returns-clause-books : goal.returns-clause-books
returns-clause-books g c = books_reopen g.row.T.Denot g.D.Disk.told g.D.Disk.faults g.D.Disk.fuse

pub returns-clause-calls : goal.returns-clause-calls
returns-clause-calls g c = calls_reopen g.row.T.Denot g.D.Disk.told g.D.Disk.faults g.D.Disk.fuse
