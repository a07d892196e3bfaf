use Rattle.std.proofs.Common.{◌≡◌, drop, true, ap, sym, ◌∙◌, arith}
use Rattle.std.specs.List.{list_any}
use Rattle.std.proofs.lemmas.Bool.{not-false, not-true}
use Rattle.base_kinds.specs.Values.{is_list, same_scalar, all_differ}
use Rattle.value_core.specs.Scalars.{value_of}
use Rattle.value_core.proofs.Behind.{made_from, made_none, list_differs, list_is_no_member, one_member_more, new_differs, at_place, same_behind}
use Rattle.value_core.proofs.distinct.many_differ.Goals as goal

pub returns-then-not-added : goal.returns-then-not-added
returns-then-not-added c =
    let value = c.index-values-n.result in
    let n = c.loop-n.n in
    let made : value_of c.in-Some.scalar ≡ value = made_from _ _ (is_list value) (c.in-Some.ensures {u = tt}) in
    let here = at_place c.args.values.now n value c.loop-n.invariant.inside (omega arith) c.index-values-n.is in
    let there = not-false _ (sym c.in-Ok.ensures.added ∙ c.if-not-added.true) in
    same_behind c.args.values.now n value here (ap (λ v. list_any (same_scalar v) (drop n c.args.values.now)) (sym made) ∙ sym (c.loop-n.invariant.members c.in-Some.scalar) ∙ there)

pub loop-n-preserved-else-not-added : goal.loop-n-preserved-else-not-added
loop-n-preserved-else-not-added c =
    let value = c.index-values-n.result in
    let values = c.args.values.now in
    let n = c.loop-n.n in
    let made : value_of c.in-Some.scalar ≡ value = made_from _ _ (is_list value) (c.in-Some.ensures {u = tt}) in
    let here = at_place values n value c.loop-n.invariant.inside (omega arith) c.index-values-n.is in
    let none = not-true _ (sym c.in-Ok.ensures.added ∙ c.if-not-added.false) in
    let apart = ap (λ v. list_any (same_scalar v) (drop n values)) (sym made) ∙ sym (c.loop-n.invariant.members c.in-Some.scalar) ∙ none in
    record {
      inside = omega (arith, c.loop-n.invariant.inside);
      differ = ap all_differ here ∙ new_differs value (drop n values) apart c.loop-n.invariant.differ;
      members = λ q. one_member_more c.in-Some.scalar q value (drop n values) _ _ made (c.in-Ok.ensures.updates.0 q) (c.loop-n.invariant.members q) ∙ ap (list_any (same_scalar (value_of q))) (sym here);
    }

pub loop-n-preserved : goal.loop-n-preserved
loop-n-preserved c =
    let value = c.index-values-n.result in
    let values = c.args.values.now in
    let n = c.loop-n.n in
    let here = at_place values n value c.loop-n.invariant.inside (omega arith) c.index-values-n.is in
    let listed : is_list value ≡ true = made_none value (is_list value) (c.in_default.ensures {u = tt}) in
    record {
      inside = omega (arith, c.loop-n.invariant.inside);
      differ = ap all_differ here ∙ list_differs value (drop n values) listed c.loop-n.invariant.differ;
      members = λ q. c.loop-n.invariant.members q ∙ list_is_no_member q value (drop n values) listed ∙ ap (list_any (same_scalar (value_of q))) (sym here);
    }
