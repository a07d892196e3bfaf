use Rattle.std.proofs.Common.{[], sym, subst, Some}
use Rattle.subscribe_calls.specs.Calls.{CallView}
use Rattle.stream_worker.specs.inner.Steps.{HasFed}
use Rattle.stream_worker.proofs.Feeding.{begin_served, starves}
use Rattle.stream_worker.proofs.steps.call_of.Goals as goal

pub returns-in-Ok : goal.returns-in-Ok
returns-in-Ok c = λ schema stream from.
    subst (λ (call : CallView). HasFed schema stream c.args.plan 0 from (Some call) [] from) (sym c.in-Ok.ensures) (begin_served schema stream c.args.plan from)

pub returns-in-Err : goal.returns-in-Err
returns-in-Err c = λ schema stream from.
    starves schema stream c.args.plan from 0 _ [] [] from (begin_served schema stream c.args.plan from)
