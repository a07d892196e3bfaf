use Rattle.std.proofs.Common.{◌≡◌, ℕ, false, refl, ap, subst, sym, ◌∙◌, Ok, Err, [], ◌∷◌, ◌++◌}
use Rattle.base_kinds.specs.declared.refusal.Refusal.TheVariants.{NoMemory}
use Rattle.base_kinds.specs.Rules.{rules_of}
use Rattle.base_kinds.specs.Step.{is_due, step}
use Rattle.disk_model.specs.Calls.{CallsPassed}
use Rattle.commit_journal.specs.Ledgers.{LedgerView}
use Rattle.book_port.specs.declared.happening.Happening.TheVariants.{Marked}
use Rattle.book_port.specs.Answers.{set_stages, AnswersSet}
use Rattle.book_port.specs.Chronicles.{history_of, mark_after}
use Rattle.book_port.specs.Opened.{rules_in}
use Rattle.commit_core.specs.CoreView.{CoreView}
use Rattle.book_core.specs.Calls.{answer_entry}
use Rattle.book_core.specs.Views.{BookView, history_in}
use Rattle.book_core.proofs.Answering.{refused_no_fault, unmarked, error_is, fault_answers}
use Rattle.book_core.proofs.Calling.{none_made, none_made_by}
use Rattle.book_core.proofs.Ends.{not_memory, memory_only, ask_given, ask_appended, ask_four, ask_by, ask_through, ask_attempted, ask_accepted, ending_short}
use Rattle.book_core.proofs.Exits.{may_append, kept_marked, kept_entered, few_marks, settled_here, history_marked, part_entered, part_failed_as, part_starved}
use Rattle.book_core.proofs.book.Book.commit.Goals as goal

pub returns-in_err-entry-clause-part : goal.returns-in_err-entry-clause-part
returns-in_err-entry-clause-part g c =
    let is = error_is c.from_residual.result c.in_err-entry.field-0.0 c.from_residual.ensures.1 in
    let other = refused_no_fault (rules_of c.self.inside.core.schema c.self.inside.core.limits) c.self.inside.core.entries c.args.now c.args.author c.args.ask c.in_err-entry.field-0.0 c.in_err-entry.ensures.judged in
    part_starved g.D.Disk.told g.D.Disk.faults _ _ _ _ _ c.self.invariant g.D.Disk.fuse c.args.author (λ b. set_stages (rules_in b.opened) (history_in b) c.args.now c.args.author c.args.ask) (λ b. answer_entry (step (rules_in b.opened) (history_in b) c.args.now c.args.author c.args.ask)) c.args.self.now c.self.view_is c.from_residual.result
    (ap (λ r. mark_after c.args.author r) is ∙ unmarked ℕ c.args.author c.in_err-entry.field-0.0 other) _ c.self.inside.ledger refl refl refl (settled_here g.D.Disk.told g.D.Disk.faults _ _ _ _ _ c.self.invariant c.args.self.now c.self.view_is c.requires.settled) _ refl (none_made_by _ _ _ _ _ c.from_residual.result c.in_err-entry.field-0.0 is other)

pub enter-requires-clause-next : goal.enter-requires-clause-next
enter-requires-clause-next g c = may_append g.D.Disk.told g.D.Disk.faults _ _ _ _ _ c.self.invariant _ (ask_given g.D.Disk.told g.D.Disk.faults _ _ _ _ _ c.self.invariant c.args.now c.args.author c.args.ask (subst (λ (b : BookView _). is_due (history_in b) c.args.now ≡ false) (sym c.self.view_is) c.requires.quiet) c.in_ok-entry.entry c.in_ok-entry.ensures.judged c.in_ok-entry.ensures.given)

pub invariant_of-self-in-Ok : goal.invariant_of-self-in-Ok
invariant_of-self-in-Ok g c =
    kept_entered g.D.Disk.told g.D.Disk.faults _ _ _ _ _ c.self.invariant c.in_ok-entry.entry (ask_given g.D.Disk.told g.D.Disk.faults _ _ _ _ _ c.self.invariant c.args.now c.args.author c.args.ask (subst (λ (b : BookView _). is_due (history_in b) c.args.now ≡ false) (sym c.self.view_is) c.requires.quiet) c.in_ok-entry.entry c.in_ok-entry.ensures.judged c.in_ok-entry.ensures.given)
    _ _ _ (record { schema = c.enter.ensures.rules.schema ∙ ap (λ (s : CoreView). s.schema) c.in_ok-entry.ensures.staged; limits = c.enter.ensures.rules.limits ∙ ap (λ (s : CoreView). s.limits) c.in_ok-entry.ensures.staged }) (c.in-Ok.ensures.core_ok ∙ ap (λ (s : CoreView). s.entries ++ c.in_ok-entry.entry ∷ []) c.in_ok-entry.ensures.staged) c.in-Ok.ensures.chronicle_ok c.enter.ensures.limits c.in-Ok.ensures.ledger_ok.0 c.enter.ensures.images (c.in-Ok.ensures.quiet (λ e. cc e)) c.enter.ensures.room

pub returns-in-Ok-clause-answer : goal.returns-in-Ok-clause-answer
returns-in-Ok-clause-answer g c =
    subst (λ (b : BookView _). AnswersSet (rules_in b.opened) (history_in b) c.args.now c.args.author c.args.ask (Ok c.in_ok-entry.entry.stamp) (history_of c.enter.new.chronicle)) c.self.view_is
    (ask_accepted g.D.Disk.told g.D.Disk.faults _ _ _ _ _ c.self.invariant c.args.now c.args.author c.args.ask (subst (λ (b : BookView _). is_due (history_in b) c.args.now ≡ false) (sym c.self.view_is) c.requires.quiet) c.in_ok-entry.entry c.in_ok-entry.ensures.judged c.in_ok-entry.ensures.given c.enter.new.chronicle c.in-Ok.ensures.chronicle_ok)

pub returns-in-Ok-clause-part : goal.returns-in-Ok-clause-part
returns-in-Ok-clause-part g c =
    part_entered g.D.Disk.told g.D.Disk.faults _ _ _ _ _ c.self.invariant g.D.Disk.fuse c.args.author (λ b. set_stages (rules_in b.opened) (history_in b) c.args.now c.args.author c.args.ask) (λ b. answer_entry (step (rules_in b.opened) (history_in b) c.args.now c.args.author c.args.ask)) c.args.self.now c.self.view_is _ c.in_ok-entry.entry _ _ _
    (ask_by g.D.Disk.told g.D.Disk.faults _ _ _ _ _ c.self.invariant c.args.now c.args.author c.args.ask (subst (λ (b : BookView _). is_due (history_in b) c.args.now ≡ false) (sym c.self.view_is) c.requires.quiet) c.in_ok-entry.entry c.in_ok-entry.ensures.judged c.in_ok-entry.ensures.given)
    (ask_through g.D.Disk.told g.D.Disk.faults _ _ _ _ _ c.self.invariant c.args.now c.args.author c.args.ask (subst (λ (b : BookView _). is_due (history_in b) c.args.now ≡ false) (sym c.self.view_is) c.requires.quiet) c.in_ok-entry.entry c.in_ok-entry.ensures.judged c.in_ok-entry.ensures.given)
    c.in-Ok.ensures.chronicle_ok c.in-Ok.ensures.ledger_ok.1 c.enter.ensures.any_moment (subst (λ n. CallsPassed n (g.D.Disk.fuse c.self.inside.ledger.disk) (g.D.Disk.fuse c.enter.new.ledger.disk)) (ask_four g.D.Disk.told g.D.Disk.faults _ _ _ _ _ c.self.invariant c.args.now c.args.author c.args.ask (subst (λ (b : BookView _). is_due (history_in b) c.args.now ≡ false) (sym c.self.view_is) c.requires.quiet) c.in_ok-entry.entry c.in_ok-entry.ensures.judged c.in_ok-entry.ensures.given) c.in-Ok.ensures.passed) (invariant_of-self-in-Ok g c)

pub invariant_of-self-then-not-is_memory : goal.invariant_of-self-then-not-is_memory
invariant_of-self-then-not-is_memory g c =
    kept_marked g.D.Disk.told g.D.Disk.faults _ _ _ _ _ c.self.invariant c.args.author _ _ _ _ (few_marks g.D.Disk.told g.D.Disk.faults _ _ _ _ _ c.self.invariant c.args.self.now c.self.view_is c.requires.few)
    (record { schema = c.enter.ensures.rules.schema ∙ ap (λ (s : CoreView). s.schema) c.in_ok-entry.ensures.staged; limits = c.enter.ensures.rules.limits ∙ ap (λ (s : CoreView). s.limits) c.in_ok-entry.ensures.staged }) (c.in-Err.ensures.core_err ∙ ap (λ (s : CoreView). s.entries) c.in_ok-entry.ensures.staged) (c.mark.ensures.chronicle ∙ ap (λ l. l ++ Marked c.args.author ∷ []) c.in-Err.ensures.chronicle_err) c.mark.ensures.marks c.enter.ensures.limits c.in-Err.ensures.ledger_err c.enter.ensures.images (c.in-Err.ensures.fault (ap Err (not_memory c.in-Err.refusal c.is_memory.result c.in-Err.ensures.refusals c.is_memory.ensures c.if-not-is_memory.true))) c.enter.ensures.room

pub returns-then-not-is_memory-clause-answer : goal.returns-then-not-is_memory-clause-answer
returns-then-not-is_memory-clause-answer g c =
    fault_answers _ _ c.args.now c.args.author c.args.ask c.in-Err.refusal _ (not_memory c.in-Err.refusal c.is_memory.result c.in-Err.ensures.refusals c.is_memory.ensures c.if-not-is_memory.true) (ap history_of (c.mark.ensures.chronicle ∙ ap (λ l. l ++ Marked c.args.author ∷ []) c.in-Err.ensures.chronicle_err) ∙ history_marked c.self.inside.chronicle c.args.author ∙ ap (λ (b : BookView _). history_in b) c.self.view_is)

pub returns-then-not-is_memory-clause-part : goal.returns-then-not-is_memory-clause-part
returns-then-not-is_memory-clause-part g c =
    part_failed_as g.D.Disk.told g.D.Disk.faults _ _ _ _ _ c.self.invariant g.D.Disk.fuse c.args.author (λ b. set_stages (rules_in b.opened) (history_in b) c.args.now c.args.author c.args.ask) (λ b. answer_entry (step (rules_in b.opened) (history_in b) c.args.now c.args.author c.args.ask)) c.args.self.now c.self.view_is c.in-Err.refusal (not_memory c.in-Err.refusal c.is_memory.result c.in-Err.ensures.refusals c.is_memory.ensures c.if-not-is_memory.true) c.in_ok-entry.entry _ _ _ _
    (ask_through g.D.Disk.told g.D.Disk.faults _ _ _ _ _ c.self.invariant c.args.now c.args.author c.args.ask (subst (λ (b : BookView _). is_due (history_in b) c.args.now ≡ false) (sym c.self.view_is) c.requires.quiet) c.in_ok-entry.entry c.in_ok-entry.ensures.judged c.in_ok-entry.ensures.given)
    (ask_attempted g.D.Disk.told g.D.Disk.faults _ _ _ _ _ c.self.invariant c.args.now c.args.author c.args.ask (subst (λ (b : BookView _). is_due (history_in b) c.args.now ≡ false) (sym c.self.view_is) c.requires.quiet) c.in_ok-entry.entry c.in_ok-entry.ensures.judged c.in_ok-entry.ensures.given)
    (c.mark.ensures.chronicle ∙ ap (λ l. l ++ Marked c.args.author ∷ []) c.in-Err.ensures.chronicle_err) c.in-Err.ensures.doubt c.enter.ensures.any_moment (ask_appended g.D.Disk.told g.D.Disk.faults _ _ _ _ _ c.self.invariant c.args.now c.args.author c.args.ask (subst (λ (b : BookView _). is_due (history_in b) c.args.now ≡ false) (sym c.self.view_is) c.requires.quiet) c.in_ok-entry.entry c.in_ok-entry.ensures.judged c.in_ok-entry.ensures.given) (c.in-Err.ensures.failed (ap Err (not_memory c.in-Err.refusal c.is_memory.result c.in-Err.ensures.refusals c.is_memory.ensures c.if-not-is_memory.true))) (invariant_of-self-then-not-is_memory g c)

pub returns-else-not-is_memory-clause-part : goal.returns-else-not-is_memory-clause-part
returns-else-not-is_memory-clause-part g c =
    let is : c.in-Err.refusal ≡ NoMemory = c.is_memory.ensures.0 c.if-not-is_memory.false in
    let left = c.in-Err.ensures.memory (ap Err is) in
    part_starved g.D.Disk.told g.D.Disk.faults _ _ _ _ _ c.self.invariant g.D.Disk.fuse c.args.author (λ b. set_stages (rules_in b.opened) (history_in b) c.args.now c.args.author c.args.ask) (λ b. answer_entry (step (rules_in b.opened) (history_in b) c.args.now c.args.author c.args.ask)) c.args.self.now c.self.view_is (Err c.in-Err.refusal)
    (unmarked ℕ c.args.author c.in-Err.refusal (memory_only c.in-Err.refusal is)) c.enter.new.chronicle c.enter.new.ledger c.in-Err.ensures.chronicle_err (ap (λ (l : LedgerView _). l.disk) left) (ap (λ (l : LedgerView _). l.doubt) left) (settled_here g.D.Disk.told g.D.Disk.faults _ _ _ _ _ c.self.invariant c.args.self.now c.self.view_is c.requires.settled) _ refl (none_made ℕ _ _ _ _ _ c.in-Err.refusal (memory_only c.in-Err.refusal is))

pub returns-else-not-is_memory-clause-closes : goal.returns-else-not-is_memory-clause-closes
returns-else-not-is_memory-clause-closes g c = λ is ends. c.in-Err.ensures.within (ending_short g.D.Disk.told g.D.Disk.faults _ _ _ _ _ c.self.invariant c.args.now c.args.author c.args.ask (subst (λ (b : BookView _). is_due (history_in b) c.args.now ≡ false) (sym c.self.view_is) c.requires.quiet) c.in_ok-entry.entry c.in_ok-entry.ensures.judged c.in_ok-entry.ensures.given ends) (ap Err (c.is_memory.ensures.0 c.if-not-is_memory.false))
