use Rattle.std.proofs.Common.{◌≡◌, inl, inr, refl, sym, ap, ◌∙◌, subst}
use Rattle.std.specs.Prelude.{None, Ok}
use Rattle.book_port.specs.Ports.{PortView}
use Rattle.request_desk.specs.Subscribes.{subscribe_step}
use Rattle.request_desk.specs.declared.subscribe_steps.SubscribeStep.TheVariants.{Begin}
use Rattle.grpc_requests.specs.declared.request.Asked.TheVariants as asks
use Rattle.sub_plan.specs.declared.plan.Plan.{Plan}
use Rattle.session_core.specs.inner.Steps.{IsReplied, service}
use Rattle.session_core.proofs.Subscribing.{begun_or, in_no_mode}
use Rattle.session_core.proofs.answering.answer_plan.Goals as goal

pub returns-in-Once-clause-replied : goal.returns-in-Once-clause-replied
returns-in-Once-clause-replied g c = λ body is. inl (c.answer_once.ensures.replied c.args.stream body c.args.calls is c.in-Once.is, refl)

pub returns-in-Poll-clause-replied : goal.returns-in-Poll-clause-replied
returns-in-Poll-clause-replied g c = λ body is.
    begun_or _ _ _ c.begin-in-Poll.result (λ done replied. inl (replied, refl)) (refl, refl, refl) (c.begin-in-Poll.ensures c.args.desk.now body (g.P.BookPort.port c.args.book.now) (g.C.Clock.readings c.args.clock.now) is (inr c.in-Poll.is))

pub returns-in-Other-clause-replied : goal.returns-in-Other-clause-replied
returns-in-Other-clause-replied g c = λ body is. inl (in_no_mode c.args.desk.now c.args.stream body (g.P.BookPort.port c.args.book.now) (g.P.BookPort.port c.args.book.now) c.args.calls (g.C.Clock.readings c.args.clock.now) (g.C.Clock.readings c.args.clock.now) c.args.plan refl refl is c.in-Other.is, refl)

pub returns-in-Err-clause-replied : goal.returns-in-Err-clause-replied
returns-in-Err-clause-replied g c = λ body is.
    begun_or _ _ _ c.begin.result
    (λ done replied. inl (
      subst (λ (p : PortView). IsReplied c.args.desk.now c.args.stream (asks.Subscribe body) done.reply (service p c.args.calls) (service (g.P.BookPort.port c.hand.new.book) done.calls) (g.C.Clock.readings c.args.clock.now) (g.C.Clock.readings c.args.clock.now)) c.hand.ensures.book replied,
      c.in-Err.ensures.none,
    ))
    (c.hand.ensures.book, refl, c.in-Err.ensures.none)
    (c.begin.ensures c.args.desk.now body (g.P.BookPort.port c.hand.new.book) (g.C.Clock.readings c.args.clock.now) (subst (λ (p : Plan). subscribe_step None body ≡ Ok (Begin p)) (sym c.in-Err.ensures.plan) is) (inl (ap (λ (p : Plan). p.mode) c.in-Err.ensures.plan ∙ c.in-Stream.is)))
