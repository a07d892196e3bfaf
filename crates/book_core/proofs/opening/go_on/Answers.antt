use Rattle.std.proofs.Common.{length, IfSome, Err, sym, ap, ◌∙◌, subst, arith}
use Rattle.disk_model.specs.Calls.{CallsPassed, WhereArmed}
use Rattle.journal_format.specs.Histories.{MayFollow}
use Rattle.commit_journal.specs.Ledgers.{LedgerView}
use Rattle.commit_journal.specs.Openings.{opening_calls}
use Rattle.book_port.specs.Chronicles.{entered}
use Rattle.book_core.specs.Openings.{IsReady, IsFaulty, IsStarved, IsUnfit}
use Rattle.book_core.specs.Views.{BookView}
use Rattle.book_core.specs.inner.Books.{IsBook, opened_with}
use Rattle.book_core.proofs.Opened.{reserved, starved_here, unfit_here, images_before, faulty_here, book_here, ready_here}
use Rattle.book_core.proofs.Openings.{replayable, restart_follows, restart_short}
use Rattle.book_core.proofs.opening.go_on.Goals as goal

pub returns-in_default : goal.returns-in_default
returns-in_default g c = subst (λ d. IsStarved g.D.Disk.told g.D.Disk.faults g.D.Disk.fuse c.args.given.value c.args.core.schema c.args.now d) (sym c.give.ensures) (starved_here g.D.Disk.told g.D.Disk.faults g.D.Disk.fuse c.args.given.value c.args.core.schema c.args.now c.reserve.new.self c.args.entries (reserved g.D.Disk.told g.D.Disk.faults c.args.given.value c.args.entries c.args.ledger c.reserve.new.self _ c.reserve.ensures.same c.requires.ready) (subst (λ (l : LedgerView _). WhereArmed (g.D.Disk.fuse c.args.given.value) (g.D.Disk.told c.args.given.value) (λ x. CallsPassed (opening_calls (length x.seen)) (g.D.Disk.fuse c.args.given.value) (g.D.Disk.fuse l.disk))) (sym c.reserve.ensures.same) c.requires.calls))

pub restore-requires-clause-replayable : goal.restore-requires-clause-replayable
restore-requires-clause-replayable g c = replayable c.args.ledger.limits c.args.entries c.requires.ready.legal

pub append_one-requires-clause-settled : goal.append_one-requires-clause-settled
append_one-requires-clause-settled g c = (reserved g.D.Disk.told g.D.Disk.faults c.args.given.value c.args.entries c.args.ledger c.reserve.new.self _ c.reserve.ensures.same c.requires.ready).no_doubt

pub append_one-requires-clause-next : goal.append_one-requires-clause-next
append_one-requires-clause-next g c = subst (λ h. IfSome c.in-Ok-restore.restart (λ e. MayFollow c.reserve.new.self.limits h e)) (sym (reserved g.D.Disk.told g.D.Disk.faults c.args.given.value c.args.entries c.args.ledger c.reserve.new.self _ c.reserve.ensures.same c.requires.ready).history_is) (restart_follows c.args.entries c.args.now c.reserve.new.self.limits (reserved g.D.Disk.told g.D.Disk.faults c.args.given.value c.args.entries c.args.ledger c.reserve.new.self _ c.reserve.ensures.same c.requires.ready).legal c.in-Ok-restore.restart c.in-Ok-restore.ensures.restart)

pub append_one-requires-clause-room : goal.append_one-requires-clause-room
append_one-requires-clause-room g c = restart_short c.args.entries c.args.now c.reserve.new.self.room (omega (arith, c.in-Ok.ensures.ok)) c.in-Ok-restore.restart c.in-Ok-restore.ensures.restart

pub append_one-requires-clause-images : goal.append_one-requires-clause-images
append_one-requires-clause-images g c = images_before g.D.Disk.told g.D.Disk.faults g.D.Disk.fuse c.args.given.value c.args.core.schema c.args.now c.reserve.new.self c.args.entries (reserved g.D.Disk.told g.D.Disk.faults c.args.given.value c.args.entries c.args.ledger c.reserve.new.self _ c.reserve.ensures.same c.requires.ready) (subst (λ (l : LedgerView _). WhereArmed (g.D.Disk.fuse c.args.given.value) (g.D.Disk.told c.args.given.value) (λ x. CallsPassed (opening_calls (length x.seen)) (g.D.Disk.fuse c.args.given.value) (g.D.Disk.fuse l.disk))) (sym c.reserve.ensures.same) c.requires.calls)

pub invariant_of-book : goal.invariant_of-book
invariant_of-book g c =
    subst (λ s. IsBook g.D.Disk.told g.D.Disk.faults (opened_with s (g.D.Disk.faults c.args.given.value)) c.chronicle_of-chronicle.result c.restore.new.core c.append_one.new.ledger 0) (sym c.of-first.ensures)
    (book_here g.D.Disk.told g.D.Disk.faults g.D.Disk.fuse c.args.given.value c.args.core.schema c.args.now c.reserve.new.self c.args.entries (reserved g.D.Disk.told g.D.Disk.faults c.args.given.value c.args.entries c.args.ledger c.reserve.new.self _ c.reserve.ensures.same c.requires.ready) (subst (λ (l : LedgerView _). WhereArmed (g.D.Disk.fuse c.args.given.value) (g.D.Disk.told c.args.given.value) (λ x. CallsPassed (opening_calls (length x.seen)) (g.D.Disk.fuse c.args.given.value) (g.D.Disk.fuse l.disk))) (sym c.reserve.ensures.same) c.requires.calls) c.in-Ok-restore.restart c.in-Ok-restore.ensures.restart c.append_one.new.ledger c.append_one.ensures.limits c.append_one.ensures.any_moment c.restore.new.core c.chronicle_of-chronicle.result c.restore.ensures.rules.schema (c.restore.ensures.rules.limits ∙ c.requires.limits ∙ sym (ap (λ (l : LedgerView _). l.limits) c.reserve.ensures.same)) c.in-Ok-restore.ensures.entries (c.chronicle_of-chronicle.ensures ∙ ap entered c.entries-history.ensures.value) c.in-Ok-restore.ensures.sound c.in-Ok-append_one.ensures.ok.0 c.in-Ok-append_one.ensures.ok.1 c.in-Ok-append_one.ensures.quiet c.append_one.ensures.images (omega (arith, c.in-Ok.ensures.ok, c.append_one.ensures.room)))

pub returns-in-Ok-append_one : goal.returns-in-Ok-append_one
returns-in-Ok-append_one g c =
    subst (λ s. IsReady g.D.Disk.told g.D.Disk.faults g.D.Disk.fuse c.args.given.value c.args.core.schema c.args.now (let b : BookView _ = record { disk = c.append_one.new.ledger.disk; opened = opened_with s (g.D.Disk.faults c.args.given.value); chronicle = c.chronicle_of-chronicle.result; doubt = c.append_one.new.ledger.doubt } in b)) (sym c.of-first.ensures)
    (ready_here g.D.Disk.told g.D.Disk.faults g.D.Disk.fuse c.args.given.value c.args.core.schema c.args.now c.reserve.new.self c.args.entries (reserved g.D.Disk.told g.D.Disk.faults c.args.given.value c.args.entries c.args.ledger c.reserve.new.self _ c.reserve.ensures.same c.requires.ready) (subst (λ (l : LedgerView _). WhereArmed (g.D.Disk.fuse c.args.given.value) (g.D.Disk.told c.args.given.value) (λ x. CallsPassed (opening_calls (length x.seen)) (g.D.Disk.fuse c.args.given.value) (g.D.Disk.fuse l.disk))) (sym c.reserve.ensures.same) c.requires.calls) c.in-Ok-restore.restart c.in-Ok-restore.ensures.restart c.append_one.new.ledger c.append_one.ensures.limits c.append_one.ensures.any_moment c.restore.new.core c.chronicle_of-chronicle.result c.restore.ensures.rules.schema (c.restore.ensures.rules.limits ∙ c.requires.limits ∙ sym (ap (λ (l : LedgerView _). l.limits) c.reserve.ensures.same)) c.in-Ok-restore.ensures.entries (c.chronicle_of-chronicle.ensures ∙ ap entered c.entries-history.ensures.value) c.in-Ok-restore.ensures.sound c.in-Ok-append_one.ensures.ok.0 c.in-Ok-append_one.ensures.ok.1 c.in-Ok-append_one.ensures.quiet c.append_one.ensures.images c.in-Ok-append_one.ensures.passed)

pub returns-in-Ok-restore : goal.returns-in-Ok-restore
returns-in-Ok-restore g c = subst (λ d. IsFaulty g.D.Disk.told g.D.Disk.faults g.D.Disk.fuse c.args.given.value c.args.core.schema c.args.now d) (sym c.give-in-Err.ensures) (faulty_here g.D.Disk.told g.D.Disk.faults g.D.Disk.fuse c.args.given.value c.args.core.schema c.args.now c.reserve.new.self c.args.entries (reserved g.D.Disk.told g.D.Disk.faults c.args.given.value c.args.entries c.args.ledger c.reserve.new.self _ c.reserve.ensures.same c.requires.ready) (subst (λ (l : LedgerView _). WhereArmed (g.D.Disk.fuse c.args.given.value) (g.D.Disk.told c.args.given.value) (λ x. CallsPassed (opening_calls (length x.seen)) (g.D.Disk.fuse c.args.given.value) (g.D.Disk.fuse l.disk))) (sym c.reserve.ensures.same) c.requires.calls) c.in-Ok-restore.restart c.in-Ok-restore.ensures.restart c.append_one.new.ledger c.append_one.ensures.limits c.append_one.ensures.any_moment c.in-Err.ensures.some c.in-Ok-restore.ensures.sound c.in-Err.ensures.fault c.in-Err.ensures.failed)

pub returns-in-Err-Unfit : goal.returns-in-Err-Unfit
returns-in-Err-Unfit g c = subst (λ d. IsUnfit g.D.Disk.told g.D.Disk.faults g.D.Disk.fuse c.args.given.value c.args.core.schema c.args.now d) (sym c.give-in-Err-Unfit.ensures) (unfit_here g.D.Disk.told g.D.Disk.faults g.D.Disk.fuse c.args.given.value c.args.core.schema c.args.now c.reserve.new.self c.args.entries (reserved g.D.Disk.told g.D.Disk.faults c.args.given.value c.args.entries c.args.ledger c.reserve.new.self _ c.reserve.ensures.same c.requires.ready) (subst (λ (l : LedgerView _). WhereArmed (g.D.Disk.fuse c.args.given.value) (g.D.Disk.told c.args.given.value) (λ x. CallsPassed (opening_calls (length x.seen)) (g.D.Disk.fuse c.args.given.value) (g.D.Disk.fuse l.disk))) (sym c.reserve.ensures.same) c.requires.calls) (c.in-Err-Unfit.ensures.unfit (ap Err c.in-Err-Unfit.field-0-is)))
