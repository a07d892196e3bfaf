use Rattle.std.proofs.Common.{◌≡◌, inl, refl, subst}
use Rattle.std.specs.Prelude.{None, Ok}
use Rattle.request_desk.specs.Subscribes.{subscribe_step}
use Rattle.request_desk.specs.declared.subscribe_steps.SubscribeStep.{SubscribeStep}
use Rattle.request_desk.specs.declared.subscribe_steps.SubscribeStep.TheVariants.{Begin, Poll}
use Rattle.session_core.proofs.Subscribing.{refused, no_poll_first}
use Rattle.session_core.proofs.answering.answer_subscribe.Goals as goal

pub returns-in-Ok-Begin-clause-replied : goal.returns-in-Ok-Begin-clause-replied
returns-in-Ok-Begin-clause-replied g c =
    let is = c.in-Ok-Begin.field-0-is in
    let same : c.in-Ok-Begin.field-0 ≡ Begin c.in-Ok-Begin.plan = cc in
    c.answer_plan.ensures.replied c.args.body.now
    (subst (λ (step : SubscribeStep). subscribe_step None c.args.body.now ≡ Ok step) same c.in-Ok-Begin.ensures)

pub returns-in-Ok-Poll-clause-replied : goal.returns-in-Ok-Poll-clause-replied
returns-in-Ok-Poll-clause-replied g c =
    let is = c.in-Ok-Poll.field-0-is in
    let same : c.in-Ok-Poll.field-0 ≡ Poll = cc in
    absurd (no_poll_first c.args.body.now (subst (λ (step : SubscribeStep). subscribe_step None c.args.body.now ≡ Ok step) same c.in-Ok-Poll.ensures))

pub returns-in-Err-clause-replied : goal.returns-in-Err-clause-replied
returns-in-Err-clause-replied g c = inl (refused c.args.desk.now c.args.stream c.args.body.now (g.P.BookPort.port c.args.book.now) (g.P.BookPort.port c.args.book.now) c.args.calls (g.C.Clock.readings c.args.clock.now) (g.C.Clock.readings c.args.clock.now) c.in-Err.refusal refl refl c.in-Err.ensures, refl)
