use Rattle.std.proofs.Common.{sym, ap, ◌∙◌, arith}
use Rattle.std.proofs.lemmas.Result.{err_from_is_err_and}
use Rattle.base_kinds.specs.Texts.{key_part}
use Rattle.path_core.specs.PathText.{name_cmp, IsKey}
use Rattle.path_core.specs.inner.Reading.{ends_below}
use Rattle.path_core.proofs.Runs.{run_more, all_more}
use Rattle.path_core.proofs.Passed.{passed_on}
use Rattle.path_core.proofs.Keys.{no_key_left, key_out_of_order, rises_more}
use Rattle.path_core.proofs.reading.put_keys.Goals as goal

pub returns-in_err-key-clause-bad : goal.returns-in_err-key-clause-bad
returns-in_err-key-clause-bad c =
    let p = err_from_is_err_and c.from_residual.result c.from_residual.ensures.1 in
    rw (p.1, p.2) (λ fault. no_key_left c.args.text.now c.loop-begun.keys c.loop-begun.rest.now c.in-Some.begun.now c.loop-begun.invariant.spelled c.loop-begun.invariant.each c.in-Some.ensures.some (c.in_err-key.ensures.bad (passed_on _ _ fault)))

pub returns-then-not-may_follow-clause-bad : goal.returns-then-not-may_follow-clause-bad
returns-then-not-may_follow-clause-bad c fault =
    key_out_of_order c.args.text.now c.loop-begun.keys c.loop-begun.rest.now c.in-Some.begun.now c.in_ok-key.key c.in_ok-key.others.now c.loop-begun.invariant.spelled c.loop-begun.invariant.each c.in-Some.ensures.some c.in_ok-key.ensures.ok
    (ap (λ keys. ends_below name_cmp keys c.in_ok-key.key) (sym c.items.ensures) ∙ sym c.may_follow.ensures ∙ c.if-not-may_follow.true)

pub loop-begun-preserved : goal.loop-begun-preserved
loop-begun-preserved c =
    let was = c.loop-begun.invariant in
    let keys = c.loop-begun.keys in
    let key = c.in_ok-key.key in
    rw c.in_ok-push.ensures.ok (record {
      spelled = run_more key_part c.args.text.now keys c.loop-begun.rest.now key c.in_ok-key.others.now was.spelled (c.in-Some.ensures.some ∙ c.in_ok-key.ensures.ok.spelled);
      each = all_more IsKey keys key was.each c.in_ok-key.ensures.ok.is_key;
      rising = rises_more name_cmp keys key was.rising (ap (λ items. ends_below name_cmp items key) (sym c.items.ensures) ∙ sym c.may_follow.ensures ∙ c.if-not-may_follow.false);
      shorter = omega (arith, was.shorter, c.in-Some.ensures.shorter, c.in_ok-key.ensures.shorter);
    })
