use Rattle.std.proofs.Common.{◌≡◌, subst}
use Rattle.std.specs.Prelude.{Some, Ok}
use Rattle.request_desk.specs.Subscribes.{subscribe_step}
use Rattle.request_desk.specs.declared.subscribe_steps.SubscribeStep.{SubscribeStep}
use Rattle.request_desk.specs.declared.subscribe_steps.SubscribeStep.TheVariants.{Poll}
use Rattle.sub_plan.specs.declared.plan.Plan.{Plan}
use Rattle.session_core.proofs.later.messaged.Goals as goal

pub returns-in-Ok-Poll : goal.returns-in-Ok-Poll
returns-in-Ok-Poll c =
    let is = c.in-Ok-Poll.field-0-is in
    let same : c.in-Ok-Poll.field-0 ≡ Poll = cc in
    c.polled.ensures c.args.body.now
    (subst (λ (plan : Plan). subscribe_step (Some plan.mode) c.args.body.now ≡ Ok Poll) c.plan.ensures
    (subst (λ (step : SubscribeStep). subscribe_step (Some c.plan.result.now.mode) c.args.body.now ≡ Ok step) same c.in-Ok-Poll.ensures))
