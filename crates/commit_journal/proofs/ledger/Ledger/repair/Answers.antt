use Rattle.std.proofs.Common.{refl}
use Rattle.commit_journal.proofs.Exits.{leaves_now, repair_fails, repair_done}
use Rattle.commit_journal.proofs.ledger.Ledger.repair.Goals as goal

pub invariant_of-self : goal.invariant_of-self
invariant_of-self g c = (repair_fails (g.D.Disk.told) c.self.view_is c.self.invariant c.requires _ refl _ c.in_err-put_synced.ensures.err).ledger

pub returns-in_err-put_synced-clause-any_moment : goal.returns-in_err-put_synced-clause-any_moment
returns-in_err-put_synced-clause-any_moment g c = (repair_fails (g.D.Disk.told) c.self.view_is c.self.invariant c.requires _ refl _ c.in_err-put_synced.ensures.err).since

pub returns-in_err-put_synced-clause-images : goal.returns-in_err-put_synced-clause-images
returns-in_err-put_synced-clause-images g c = leaves_now _ _ _ _ _ (invariant_of-self g c)

pub invariant_of-self-2 : goal.invariant_of-self-2
invariant_of-self-2 g c = (repair_done (g.D.Disk.told) c.self.view_is c.self.invariant c.requires _ refl _ c.in_ok-put_synced.ensures.ok).ledger

pub returns-clause-any_moment : goal.returns-clause-any_moment
returns-clause-any_moment g c = (repair_done (g.D.Disk.told) c.self.view_is c.self.invariant c.requires _ refl _ c.in_ok-put_synced.ensures.ok).since

pub returns-clause-images : goal.returns-clause-images
returns-clause-images g c = leaves_now _ _ _ _ _ (invariant_of-self-2 g c)
