use Rattle.std.proofs.Common.{refl, ap, subst, sym, ◌≤◌, arith}
use Rattle.commit_journal.specs.Ledgers.{LedgerView}
use Rattle.book_core.proofs.Exits.{kept_marked, few_marks, repaired}
use Rattle.book_core.proofs.book.Book.settle.Goals as goal

pub invariant_of-self-in_default : goal.invariant_of-self-in_default
invariant_of-self-in_default g c =
    let is = c.in_default.ensures.err in
    kept_marked g.D.Disk.told g.D.Disk.faults _ _ _ _ _ c.self.invariant c.args.author _ _ _ _ (few_marks g.D.Disk.told g.D.Disk.faults _ _ _ _ _ c.self.invariant c.args.self.now c.self.view_is c.requires.few)
    (record { schema = refl; limits = refl }) refl c.mark.ensures.chronicle c.mark.ensures.marks (ap (λ (l : LedgerView _). l.limits) is) (ap (λ (l : LedgerView _). l.history) is) c.repair.ensures.images c.in_default.ensures.fault (subst (λ (l : LedgerView _). c.self.inside.ledger.room ≤ l.room) (sym is) (omega arith))

pub returns-in_default-clause-any_moment : goal.returns-in_default-clause-any_moment
returns-in_default-clause-any_moment g c = repaired g.D.Disk.told g.D.Disk.faults _ _ _ _ _ c.self.invariant c.args.self.now c.self.view_is _ c.repair.ensures.any_moment

pub returns-in-Ok-clause-any_moment : goal.returns-in-Ok-clause-any_moment
returns-in-Ok-clause-any_moment g c = repaired g.D.Disk.told g.D.Disk.faults _ _ _ _ _ c.self.invariant c.args.self.now c.self.view_is _ c.repair.ensures.any_moment

pub returns-in_default-clause-images : goal.returns-in_default-clause-images
returns-in_default-clause-images g c = (invariant_of-self-in_default g c).images

pub returns-in_default-clause-run_on : goal.returns-in_default-clause-run_on
returns-in_default-clause-run_on g c = (invariant_of-self-in_default g c).run
