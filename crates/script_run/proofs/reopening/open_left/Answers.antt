use Rattle.std.proofs.Common.{sym, ◌∙◌, subst}
use Rattle.journal_format.proofs.Runs.{one_history}
use Rattle.book_core.specs.laws.ReopeningLaws.{CanReopen}
use Rattle.script_run.proofs.Reopenings.{ready_is, never_damaged, never_unfit, failed_is, stopped_is, fewer_left}
use Rattle.script_run.proofs.reopening.open_left.Goals as goal

pub returns-in-Ready-clause-opens : goal.returns-in-Ready-clause-opens
returns-in-Ready-clause-opens c = λ limits history journal. ready_is c.args.schema c.args.reading c.args.disk limits history journal c.in-Ready.book c.in-Ready.ensures

pub unreachable-requires : goal.unreachable-requires
unreachable-requires c = never_damaged c.args.schema c.args.reading c.args.disk c.requires.limits c.requires.history c.requires.journal c.in-Damaged.field-0 c.in-Damaged.field-1 c.in-Damaged.ensures

pub unreachable-requires-in-Unfit : goal.unreachable-requires-in-Unfit
unreachable-requires-in-Unfit c = never_unfit c.args.schema c.args.reading c.args.disk c.requires.limits c.requires.history c.requires.journal c.in-Unfit.field-0 c.requires.can c.in-Unfit.ensures

pub returns-then-stopped-clause-opens : goal.returns-then-stopped-clause-opens
returns-then-stopped-clause-opens c = λ limits history journal.
    let same = one_history c.args.disk.content.seen c.requires.limits limits c.requires.history history c.requires.journal journal in
    let can = subst (λ h. CanReopen c.args.schema h) same.1 c.requires.can in
    let fed = sym c.starved.ensures ∙ c.if-starved.false in
    let stopped = sym c.stopped.ensures ∙ c.if-stopped.true in
    stopped_is c.args.schema c.args.reading c.args.disk limits history journal c.books_reopen.ensures.sound can c.requires.synced c.in-DiskFault.disk c.again.result fed stopped c.again.ensures.octets c.again.ensures.image c.in-DiskFault.ensures

pub returns-then-stopped-clause-fewer : goal.returns-then-stopped-clause-fewer
returns-then-stopped-clause-fewer c =
    let fed = sym c.starved.ensures ∙ c.if-starved.false in
    let stopped = sym c.stopped.ensures ∙ c.if-stopped.true in
    fewer_left c.args.schema c.args.reading c.args.disk c.requires.limits c.requires.history c.requires.journal c.requires.running c.in-DiskFault.disk c.again.result fed stopped c.again.ensures.octets c.in-DiskFault.ensures

pub returns-else-stopped-clause-opens : goal.returns-else-stopped-clause-opens
returns-else-stopped-clause-opens c = λ limits history journal.
    let fed = sym c.starved.ensures ∙ c.if-starved.false in
    let running = sym c.stopped.ensures ∙ c.if-stopped.false in
    failed_is c.args.schema c.args.reading c.args.disk limits history journal c.in-DiskFault.disk fed running c.in-DiskFault.ensures
