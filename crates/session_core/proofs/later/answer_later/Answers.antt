use Rattle.std.proofs.Common.{Option, subst}
use Rattle.session_core.specs.declared.served.Served.{Served}
use Rattle.session_core.specs.inner.Steps.{IsFound}
use Rattle.session_core.proofs.Laters.{later_answered}
use Rattle.session_core.proofs.later.answer_later.Goals as goal

pub returns-in_ok-calls-in-Some : goal.returns-in_ok-calls-in-Some
returns-in_ok-calls-in-Some c = λ schema port readings.
    later_answered schema c.args.stream c.args.what c.step_of-reply.result.reply port readings c.args.calls c.in_ok-before.field-0.before c.in_ok-before.field-0.after c.in_ok-calls-in-Some.calls c.in-Some.served c.step_of-reply.result.left
    (subst (λ (at : Option Served). IsFound c.args.stream c.in_ok-before.field-0.before at c.in_ok-before.field-0.after c.args.calls) c.in-Some.is c.in_ok-before.ensures)
    c.in_ok-calls-in-Some.ensures c.step_of-reply.ensures
