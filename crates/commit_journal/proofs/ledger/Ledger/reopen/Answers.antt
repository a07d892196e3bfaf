use Rattle.commit_journal.proofs.Moments.{opening_leaves}
use Rattle.commit_journal.proofs.ledger.Ledger.reopen.Goals as goal

pub returns-clause-any_moment : goal.returns-clause-any_moment
returns-clause-any_moment g c = opening_leaves (g.D.Disk.told) (g.D.Disk.faults) _ _ c.sync_and_open.ensures.image c.sync_and_open.ensures.opens
