use Rattle.std.proofs.Common.{refl, ap, subst, sym, ◌∙◌, inl, inr, None, Err, [], ◌∷◌}
use Rattle.base_kinds.specs.Step.{after_expiry}
use Rattle.book_port.specs.Chronicles.{history_of}
use Rattle.book_core.specs.Moments.{GoesThrough}
use Rattle.book_port.specs.Answers.{look_stages, AnswersLook}
use Rattle.base_kinds.specs.declared.entry.View.{View}
use Rattle.book_core.specs.Calls.{CallsFor}
use Rattle.book_core.specs.Views.{BookView, history_in}
use Rattle.book_core.proofs.Calling.{none_for, repair_failed, expiry_fails, before_asked, looked, looked_starved}
use Rattle.book_core.proofs.Answering.{error_is}
use Rattle.book_core.proofs.Exits.{history_marked}
use Rattle.book_core.proofs.Passing.{nothing_done, behind_repair}
use Rattle.book_core.proofs.book.Book.look.Goals as goal

pub returns-then-self-clause-any_moment : goal.returns-then-self-clause-any_moment
returns-then-self-clause-any_moment g c =
    subst (λ (b : BookView _). GoesThrough b.opened.limits (history_in b) b.doubt (look_stages (history_in b) c.args.now) b.doubt (g.D.Disk.told b.disk) (g.D.Disk.told b.disk)) c.self.view_is (nothing_done _ (history_of c.self.inside.chronicle) c.self.inside.ledger.doubt (after_expiry (history_of c.self.inside.chronicle) c.args.now ∷ []) (g.D.Disk.told c.self.inside.ledger.disk) c.self.invariant.images)

pub returns-in_err-settle-clause-answer : goal.returns-in_err-settle-clause-answer
returns-in_err-settle-clause-answer g c =
    subst (λ r. AnswersLook (history_in c.args.self.now) c.args.now c.args.patterns.now r (history_in c.settle.new.self)) (sym (error_is c.from_residual.result c.in_err-settle.field-0.0 c.from_residual.ensures.1 ∙ ap Err c.in_err-settle.ensures.refusal))
    (inl (ap (λ (b : BookView _). history_in b) c.in_err-settle.ensures.err ∙ history_marked c.args.self.now.chronicle c.args.author))

pub returns-in_err-settle-clause-doubt : goal.returns-in_err-settle-clause-doubt
returns-in_err-settle-clause-doubt g c =
    inr (ap (λ (b : BookView _). history_in b) c.in_err-settle.ensures.err ∙ history_marked c.args.self.now.chronicle c.args.author, ap (λ (b : BookView _). b.doubt) c.in_err-settle.ensures.err)

pub returns-in_err-expire-clause-any_moment : goal.returns-in_err-expire-clause-any_moment
returns-in_err-expire-clause-any_moment g c =
    behind_repair g.D.Disk.told c.args.self.now c.settle.new.self c.in_ok-settle.ensures.ok (λ b. look_stages (history_in b) c.args.now) (λ d e. refl) _ _ c.settle.ensures.any_moment c.expire.ensures.part.moments

pub returns-in_default-clause-any_moment : goal.returns-in_default-clause-any_moment
returns-in_default-clause-any_moment g c =
    behind_repair g.D.Disk.told c.args.self.now c.settle.new.self c.in_ok-settle.ensures.ok (λ b. look_stages (history_in b) c.args.now) (λ d e. refl) _ _ c.settle.ensures.any_moment c.expire.ensures.part.moments

pub returns-clause-any_moment : goal.returns-clause-any_moment
returns-clause-any_moment g c =
    behind_repair g.D.Disk.told c.args.self.now c.settle.new.self c.in_ok-settle.ensures.ok (λ b. look_stages (history_in b) c.args.now) (λ d e. refl) _ _ c.settle.ensures.any_moment c.expire.ensures.part.moments

pub returns-then-self-clause-calls : goal.returns-then-self-clause-calls
returns-then-self-clause-calls g c =
    none_for View c.args.self.now.doubt (history_in c.args.self.now) c.args.now None (history_in c.args.self.now) c.args.self.now.doubt (g.D.Disk.fuse c.args.self.now.disk)

pub returns-in_err-settle-clause-calls : goal.returns-in_err-settle-clause-calls
returns-in_err-settle-clause-calls g c =
    subst (λ r. CallsFor {T = View} c.args.self.now.doubt (history_in c.args.self.now) c.args.now None (history_in c.settle.new.self) c.settle.new.self.doubt (g.D.Disk.fuse c.args.self.now.disk) (g.D.Disk.fuse c.settle.new.self.disk) r) (sym (error_is c.from_residual.result c.in_err-settle.field-0.0 c.from_residual.ensures.1 ∙ ap Err c.in_err-settle.ensures.refusal))
    (repair_failed c.args.self.now.doubt (history_in c.args.self.now) c.args.now None (history_in c.settle.new.self) c.settle.new.self.doubt View _ _ c.in_err-settle.ensures.calls (ap (λ (b : BookView _). history_in b) c.in_err-settle.ensures.err ∙ history_marked c.args.self.now.chronicle c.args.author) (ap (λ (b : BookView _). b.doubt) c.in_err-settle.ensures.err))

pub returns-in_err-expire-clause-calls : goal.returns-in_err-expire-clause-calls
returns-in_err-expire-clause-calls g c =
    subst (λ r. CallsFor {T = View} c.args.self.now.doubt (history_in c.args.self.now) c.args.now None (history_in c.expire.new.self) c.expire.new.self.doubt (g.D.Disk.fuse c.args.self.now.disk) (g.D.Disk.fuse c.expire.new.self.disk) r) (sym (error_is c.from_residual-in_err-expire.result c.in_err-expire.field-0.0 c.from_residual-in_err-expire.ensures.1 ∙ ap Err c.in_err-expire.ensures.refusal))
    (expiry_fails g.D.Disk.fuse c.args.self.now c.settle.new.self c.args.now c.in_ok-settle.ensures.ok c.in_ok-settle.ensures.calls (Unit {0}) View None (history_in c.expire.new.self) c.expire.new.self.doubt _ c.in_err-expire.field-0.0 c.in_err-expire.ensures.refusal c.in_err-expire.ensures.part.made)

pub returns-clause-calls : goal.returns-clause-calls
returns-clause-calls g c =
    looked _ _ _ (before_asked g.D.Disk.fuse c.args.self.now c.settle.new.self c.args.now c.in_ok-settle.ensures.ok c.in_ok-settle.ensures.calls _ c.in_ok-expire.ensures.part.made)

pub returns-in_default-clause-calls : goal.returns-in_default-clause-calls
returns-in_default-clause-calls g c =
    looked_starved c.args.self.now.doubt (history_in c.args.self.now) c.args.now None (history_in c.expire.new.self) c.expire.new.self.doubt View _ _ (before_asked g.D.Disk.fuse c.args.self.now c.settle.new.self c.args.now c.in_ok-settle.ensures.ok c.in_ok-settle.ensures.calls _ c.in_ok-expire.ensures.part.made)
