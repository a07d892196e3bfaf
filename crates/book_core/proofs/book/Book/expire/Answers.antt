use Rattle.std.proofs.Common.{ap, subst, sym, ◌∙◌, Err, [], ◌∷◌, ◌++◌}
use Rattle.disk_model.specs.Calls.{CallsPassed}
use Rattle.book_port.specs.declared.happening.Happening.TheVariants.{Marked}
use Rattle.book_port.specs.Chronicles.{history_of}
use Rattle.book_port.specs.Answers.{look_stages}
use Rattle.book_core.specs.Calls.{expiry_entry}
use Rattle.book_core.specs.Views.{BookView, history_in}
use Rattle.book_core.proofs.Ends.{only_fault, expiry_given, expiry_by, expiry_short, expiry_through, expiry_attempted, expiry_appended, expiry_four, expired}
use Rattle.book_core.proofs.Exits.{may_append, kept_marked, kept_entered, few_marks, history_marked, part_entered, part_failed}
use Rattle.book_core.proofs.book.Book.expire.Goals as goal

pub enter-requires-clause-next : goal.enter-requires-clause-next
enter-requires-clause-next g c =
    may_append g.D.Disk.told g.D.Disk.faults _ _ _ _ _ c.self.invariant _ (expiry_given g.D.Disk.told g.D.Disk.faults _ _ _ _ _ c.self.invariant c.args.now _ (sym c.due.ensures ∙ c.if-not-due.false) c.expiry-entry.ensures.entry)

pub invariant_of-self : goal.invariant_of-self
invariant_of-self g c =
    kept_entered g.D.Disk.told g.D.Disk.faults _ _ _ _ _ c.self.invariant c.expiry-entry.result (expiry_given g.D.Disk.told g.D.Disk.faults _ _ _ _ _ c.self.invariant c.args.now _ (sym c.due.ensures ∙ c.if-not-due.false) c.expiry-entry.ensures.entry)
    _ _ _ c.enter.ensures.rules c.in-Ok.ensures.core_ok c.in-Ok.ensures.chronicle_ok c.enter.ensures.limits c.in-Ok.ensures.ledger_ok.0 c.enter.ensures.images (c.in-Ok.ensures.quiet (λ e. cc e)) c.enter.ensures.room

pub invariant_of-self-in_default : goal.invariant_of-self-in_default
invariant_of-self-in_default g c =
    let is = only_fault _ c.in_default.ensures.refusals (c.in_default.ensures.within (expiry_short g.D.Disk.told g.D.Disk.faults _ _ _ _ _ c.self.invariant c.args.now _ (sym c.due.ensures ∙ c.if-not-due.false) c.expiry-entry.ensures.entry)) in
    kept_marked g.D.Disk.told g.D.Disk.faults _ _ _ _ _ c.self.invariant c.args.author _ _ _ _ (few_marks g.D.Disk.told g.D.Disk.faults _ _ _ _ _ c.self.invariant c.args.self.now c.self.view_is c.requires.few)
    c.enter.ensures.rules c.in_default.ensures.core_err (c.mark.ensures.chronicle ∙ ap (λ l. l ++ Marked c.args.author ∷ []) c.in_default.ensures.chronicle_err) c.mark.ensures.marks c.enter.ensures.limits c.in_default.ensures.ledger_err c.enter.ensures.images (c.in_default.ensures.fault (ap Err is)) c.enter.ensures.room

pub returns-in_default-clause-err : goal.returns-in_default-clause-err
returns-in_default-clause-err g c = ap history_of (c.mark.ensures.chronicle ∙ ap (λ l. l ++ Marked c.args.author ∷ []) c.in_default.ensures.chronicle_err) ∙ history_marked c.self.inside.chronicle c.args.author ∙ ap (λ (b : BookView _). history_in b) c.self.view_is

pub returns-in_default-clause-part : goal.returns-in_default-clause-part
returns-in_default-clause-part g c =
    part_failed g.D.Disk.told g.D.Disk.faults _ _ _ _ _ c.self.invariant g.D.Disk.fuse c.args.author (λ b. look_stages (history_in b) c.args.now) (λ b. expiry_entry (history_in b) c.args.now) c.args.self.now c.self.view_is c.expiry-entry.result _ _ _ _
    (expiry_through g.D.Disk.told g.D.Disk.faults _ _ _ _ _ c.self.invariant c.args.now _ (sym c.due.ensures ∙ c.if-not-due.false) c.expiry-entry.ensures.entry) (expiry_attempted g.D.Disk.told g.D.Disk.faults _ _ _ _ _ c.self.invariant c.args.now _ (sym c.due.ensures ∙ c.if-not-due.false) c.expiry-entry.ensures.entry) (c.mark.ensures.chronicle ∙ ap (λ l. l ++ Marked c.args.author ∷ []) c.in_default.ensures.chronicle_err) c.in_default.ensures.doubt c.enter.ensures.any_moment (expiry_appended g.D.Disk.told g.D.Disk.faults _ _ _ _ _ c.self.invariant c.args.now _ (sym c.due.ensures ∙ c.if-not-due.false) c.expiry-entry.ensures.entry) (c.in_default.ensures.failed (ap Err (only_fault _ c.in_default.ensures.refusals (c.in_default.ensures.within (expiry_short g.D.Disk.told g.D.Disk.faults _ _ _ _ _ c.self.invariant c.args.now _ (sym c.due.ensures ∙ c.if-not-due.false) c.expiry-entry.ensures.entry))))) (invariant_of-self-in_default g c)

pub returns-clause-ok : goal.returns-clause-ok
returns-clause-ok g c =
    (expired g.D.Disk.told g.D.Disk.faults _ _ _ _ _ c.self.invariant c.args.now c.expiry-entry.result (sym c.due.ensures ∙ c.if-not-due.false) c.expiry-entry.ensures.entry c.args.self.now c.self.view_is _ c.in-Ok.ensures.chronicle_ok, c.in-Ok.ensures.ledger_ok.1)

pub returns-clause-part : goal.returns-clause-part
returns-clause-part g c =
    part_entered g.D.Disk.told g.D.Disk.faults _ _ _ _ _ c.self.invariant g.D.Disk.fuse c.args.author (λ b. look_stages (history_in b) c.args.now) (λ b. expiry_entry (history_in b) c.args.now) c.args.self.now c.self.view_is _ c.expiry-entry.result _ _ _
    (expiry_by g.D.Disk.told g.D.Disk.faults _ _ _ _ _ c.self.invariant c.args.now _ (sym c.due.ensures ∙ c.if-not-due.false) c.expiry-entry.ensures.entry c.args.author)
    (expiry_through g.D.Disk.told g.D.Disk.faults _ _ _ _ _ c.self.invariant c.args.now _ (sym c.due.ensures ∙ c.if-not-due.false) c.expiry-entry.ensures.entry) c.in-Ok.ensures.chronicle_ok c.in-Ok.ensures.ledger_ok.1 c.enter.ensures.any_moment (subst (λ n. CallsPassed n (g.D.Disk.fuse c.self.inside.ledger.disk) (g.D.Disk.fuse c.enter.new.ledger.disk)) (expiry_four g.D.Disk.told g.D.Disk.faults _ _ _ _ _ c.self.invariant c.args.now _ (sym c.due.ensures ∙ c.if-not-due.false) c.expiry-entry.ensures.entry) c.in-Ok.ensures.passed) (invariant_of-self g c)
