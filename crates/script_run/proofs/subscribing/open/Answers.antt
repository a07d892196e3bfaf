use Rattle.std.proofs.Common.{◌≡◌, false, is_some, sym, ap, ◌∙◌, subst, OnOk, Ok}
use Rattle.sub_plan.specs.Plans.{plan_of}
use Rattle.script_run.specs.OpenCalls.{call_named}
use Rattle.script_run.specs.Subscribing.{sub_ask}
use Rattle.script_run.specs.inner.ScriptBooks.{IsLeft, left_by_look}
use Rattle.script_run.proofs.Opening.{open_looks, some_mapped}
use Rattle.script_run.proofs.subscribing.open.Goals as goal

pub returns-in-Ok-clause-left : goal.returns-in-Ok-clause-left
returns-in-Ok-clause-left c =
    let asked = c.args.asked in
    let free : is_some (call_named asked.name c.args.calls.now.items) ≡ false = ap (λ all. is_some (call_named asked.name all)) (sym c.deref.ensures.value) ∙ sym (ap is_some c.call_named.ensures) ∙ some_mapped _ c.call_named.result ∙ sym c.is_some.ensures ∙ c.if-is_some.false in
    let plan : plan_of (sub_ask asked.mode asked.only c.args.subs) ≡ Ok c.in-Ok.plan = sym (ap plan_of c.in_ok-ask.ensures) ∙ c.in-Ok.ensures in
    subst (λ look. OnOk c.open_accepted.result (IsLeft (left_by_look look c.args.reading c.args.book.now) c.args.book.now c.open_accepted.new.book))
    (sym (open_looks asked.name asked.mode asked.only c.args.subs c.args.calls.now.items c.in-Ok.plan free plan)) c.open_accepted.ensures.left
