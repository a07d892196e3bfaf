use Rattle.std.proofs.Common.{◌≡◌, ℕ, length, refl, ap, subst, sym, ◌∙◌, inl, inr, Err, arith}
use Rattle.base_kinds.specs.Step.{after_expiry, step}
use Rattle.book_port.specs.Chronicles.{history_of, marks_of, Adds}
use Rattle.book_core.specs.Moments.{GoesThrough, IsAttempted}
use Rattle.book_port.specs.Answers.{look_stages, set_stages, AnswersSet}
use Rattle.book_port.specs.Opened.{rules_in}
use Rattle.book_core.specs.Calls.{CallsFor, answer_entry}
use Rattle.book_core.specs.Views.{BookView, history_in}
use Rattle.book_core.proofs.Calling.{none_for, repair_failed, expiry_fails, before_asked, asked_then}
use Rattle.book_core.proofs.Answering.{marks_same, error_is, adds_then, attempted_look}
use Rattle.disk_model.proofs.Moving.{leaves_weaker}
use Rattle.book_core.proofs.Ends.{set_closes, quiet_now, set_answers, set_moments, set_attempted, set_made}
use Rattle.book_core.proofs.Exits.{history_marked}
use Rattle.book_core.proofs.Passing.{nothing_done, behind_repair, look_in_set}
use Rattle.book_core.proofs.book.Book.set.Goals as goal

pub returns-then-self-clause-any_moment : goal.returns-then-self-clause-any_moment
returns-then-self-clause-any_moment g c =
    subst (λ (b : BookView _). GoesThrough b.opened.limits (history_in b) b.doubt (set_stages (rules_in b.opened) (history_in b) c.args.now c.args.author c.args.ask) b.doubt (g.D.Disk.told b.disk) (g.D.Disk.told b.disk)) c.self.view_is (nothing_done _ (history_of c.self.inside.chronicle) c.self.inside.ledger.doubt _ (g.D.Disk.told c.self.inside.ledger.disk) c.self.invariant.images)

pub returns-in_err-settle-clause-answer : goal.returns-in_err-settle-clause-answer
returns-in_err-settle-clause-answer g c =
    subst (λ r. AnswersSet (rules_in c.args.self.now.opened) (history_in c.args.self.now) c.args.now c.args.author c.args.ask r (history_in c.settle.new.self)) (sym (error_is c.from_residual.result c.in_err-settle.field-0.0 c.from_residual.ensures.1 ∙ ap Err c.in_err-settle.ensures.refusal))
    (inl (ap (λ (b : BookView _). history_in b) c.in_err-settle.ensures.err ∙ history_marked c.args.self.now.chronicle c.args.author))

pub returns-in_err-settle-clause-doubt : goal.returns-in_err-settle-clause-doubt
returns-in_err-settle-clause-doubt g c =
    inr (ap (λ (b : BookView _). history_in b) c.in_err-settle.ensures.err ∙ history_marked c.args.self.now.chronicle c.args.author, ap (λ (b : BookView _). b.doubt) c.in_err-settle.ensures.err)

pub returns-in_err-expire-clause-any_moment : goal.returns-in_err-expire-clause-any_moment
returns-in_err-expire-clause-any_moment g c =
    behind_repair g.D.Disk.told c.args.self.now c.settle.new.self c.in_ok-settle.ensures.ok (λ b. set_stages (rules_in b.opened) (history_in b) c.args.now c.args.author c.args.ask) (λ d e. refl) _ _ c.settle.ensures.any_moment
    (leaves_weaker _ _ (g.D.Disk.told c.settle.new.self.disk) (g.D.Disk.told c.expire.new.self.disk) (look_in_set c.settle.new.self.opened.limits (history_in c.settle.new.self) (after_expiry (history_in c.settle.new.self) c.args.now) _) c.expire.ensures.part.moments)

pub returns-in_err-expire-clause-doubt : goal.returns-in_err-expire-clause-doubt
returns-in_err-expire-clause-doubt g c =
    inl (attempted_look (rules_in c.args.self.now.opened) (history_in c.args.self.now) c.args.now c.args.author c.args.ask _ _ (subst (λ (b : BookView _). IsAttempted (look_stages (history_in b) c.args.now) (history_in c.expire.new.self) c.expire.new.self.doubt) c.in_ok-settle.ensures.ok c.expire.ensures.part.doubt))

pub commit-requires-clause-few : goal.commit-requires-clause-few
commit-requires-clause-few g c =
    let one = marks_same c.args.author c.in_ok-expire.field-0 c.settle.new.self.chronicle c.expire.new.self.chronicle c.in_ok-expire.ensures.part.adds in
    let two = ap (λ (b : BookView _). marks_of b.chronicle) c.in_ok-settle.ensures.ok in
    let three = ap (λ (b : BookView _). marks_of b.chronicle) c.self.view_is in
    let all : length (marks_of c.expire.new.self.chronicle) ≡ c.self.inside.marks = ap length (one ∙ two ∙ sym three) ∙ sym c.self.invariant.counted in
    omega (arith, all, c.self.invariant.few, c.if-self.false)

pub commit-requires-clause-quiet : goal.commit-requires-clause-quiet
commit-requires-clause-quiet g c = quiet_now g.D.Disk.told c.args.self.now c.settle.new.self c.expire.new.self c.args.now c.args.author c.args.ask c.in_ok-settle.ensures.ok c.expire.ensures.part.opened c.in_ok-expire.ensures.ok.0

pub returns-clause-answer : goal.returns-clause-answer
returns-clause-answer g c = set_answers g.D.Disk.told c.args.self.now c.settle.new.self c.expire.new.self c.args.now c.args.author c.args.ask c.in_ok-settle.ensures.ok c.expire.ensures.part.opened c.in_ok-expire.ensures.ok.0 c.commit.result _ c.commit.ensures.answer

pub returns-clause-adds : goal.returns-clause-adds
returns-clause-adds g c = subst (λ (b : BookView _). Adds c.args.author c.commit.result b.chronicle c.commit.new.self.chronicle) c.in_ok-settle.ensures.ok (adds_then c.args.author c.in_ok-expire.field-0 c.commit.result _ _ _ c.in_ok-expire.ensures.part.adds c.commit.ensures.part.adds)

pub returns-clause-any_moment : goal.returns-clause-any_moment
returns-clause-any_moment g c = set_moments g.D.Disk.told c.args.self.now c.settle.new.self c.expire.new.self c.args.now c.args.author c.args.ask c.in_ok-settle.ensures.ok c.expire.ensures.part.opened c.in_ok-expire.ensures.ok.0 _ _ c.settle.ensures.any_moment c.expire.ensures.part.moments c.commit.ensures.part.moments

pub returns-clause-doubt : goal.returns-clause-doubt
returns-clause-doubt g c = inl (set_attempted g.D.Disk.told c.args.self.now c.settle.new.self c.expire.new.self c.args.now c.args.author c.args.ask c.in_ok-settle.ensures.ok c.expire.ensures.part.opened c.in_ok-expire.ensures.ok.0 _ _ c.commit.ensures.part.doubt)

pub returns-clause-closes : goal.returns-clause-closes
returns-clause-closes g c = λ is few. set_closes g.D.Disk.told c.args.self.now c.settle.new.self c.expire.new.self c.args.now c.args.author c.args.ask c.in_ok-settle.ensures.ok c.expire.ensures.part.opened c.in_ok-expire.ensures.ok.0 c.commit.result _ _ c.commit.ensures.answer c.commit.ensures.settled c.commit.ensures.closes is

pub returns-then-self-clause-calls : goal.returns-then-self-clause-calls
returns-then-self-clause-calls g c =
    none_for ℕ c.args.self.now.doubt (history_in c.args.self.now) c.args.now (answer_entry (step (rules_in c.args.self.now.opened) (history_in c.args.self.now) c.args.now c.args.author c.args.ask)) (history_in c.args.self.now) c.args.self.now.doubt (g.D.Disk.fuse c.args.self.now.disk)

pub returns-in_err-settle-clause-calls : goal.returns-in_err-settle-clause-calls
returns-in_err-settle-clause-calls g c =
    subst (λ r. CallsFor {T = ℕ} c.args.self.now.doubt (history_in c.args.self.now) c.args.now (answer_entry (step (rules_in c.args.self.now.opened) (history_in c.args.self.now) c.args.now c.args.author c.args.ask)) (history_in c.settle.new.self) c.settle.new.self.doubt (g.D.Disk.fuse c.args.self.now.disk) (g.D.Disk.fuse c.settle.new.self.disk) r) (sym (error_is c.from_residual.result c.in_err-settle.field-0.0 c.from_residual.ensures.1 ∙ ap Err c.in_err-settle.ensures.refusal))
    (repair_failed c.args.self.now.doubt (history_in c.args.self.now) c.args.now (answer_entry (step (rules_in c.args.self.now.opened) (history_in c.args.self.now) c.args.now c.args.author c.args.ask)) (history_in c.settle.new.self) c.settle.new.self.doubt ℕ _ _ c.in_err-settle.ensures.calls (ap (λ (b : BookView _). history_in b) c.in_err-settle.ensures.err ∙ history_marked c.args.self.now.chronicle c.args.author) (ap (λ (b : BookView _). b.doubt) c.in_err-settle.ensures.err))

pub returns-in_err-expire-clause-calls : goal.returns-in_err-expire-clause-calls
returns-in_err-expire-clause-calls g c =
    subst (λ r. CallsFor {T = ℕ} c.args.self.now.doubt (history_in c.args.self.now) c.args.now (answer_entry (step (rules_in c.args.self.now.opened) (history_in c.args.self.now) c.args.now c.args.author c.args.ask)) (history_in c.expire.new.self) c.expire.new.self.doubt (g.D.Disk.fuse c.args.self.now.disk) (g.D.Disk.fuse c.expire.new.self.disk) r) (sym (error_is c.from_residual-in_err-expire.result c.in_err-expire.field-0.0 c.from_residual-in_err-expire.ensures.1 ∙ ap Err c.in_err-expire.ensures.refusal))
    (expiry_fails g.D.Disk.fuse c.args.self.now c.settle.new.self c.args.now c.in_ok-settle.ensures.ok c.in_ok-settle.ensures.calls (Unit {0}) ℕ (answer_entry (step (rules_in c.args.self.now.opened) (history_in c.args.self.now) c.args.now c.args.author c.args.ask)) (history_in c.expire.new.self) c.expire.new.self.doubt _ c.in_err-expire.field-0.0 c.in_err-expire.ensures.refusal c.in_err-expire.ensures.part.made)

pub returns-clause-calls : goal.returns-clause-calls
returns-clause-calls g c =
    asked_then c.args.self.now.doubt (history_in c.args.self.now) c.args.now (answer_entry (step (rules_in c.args.self.now.opened) (history_in c.args.self.now) c.args.now c.args.author c.args.ask)) (history_in c.commit.new.self) c.commit.new.self.doubt _ (g.D.Disk.fuse c.expire.new.self.disk) _ c.commit.result (before_asked g.D.Disk.fuse c.args.self.now c.settle.new.self c.args.now c.in_ok-settle.ensures.ok c.in_ok-settle.ensures.calls _ c.in_ok-expire.ensures.part.made)
    (set_made g.D.Disk.told c.args.self.now c.settle.new.self c.expire.new.self c.args.now c.args.author c.args.ask c.in_ok-settle.ensures.ok c.expire.ensures.part.opened c.in_ok-expire.ensures.ok.0 c.commit.result _ _ _ _ c.commit.ensures.part.made)
