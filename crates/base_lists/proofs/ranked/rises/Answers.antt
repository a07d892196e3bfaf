use Rattle.std.proofs.Common.{◌≡◌, ◌+◌, ◌&&◌, List, ◌∷◌, Bool, drop, ap, sym, ◌∙◌, arith}
use Rattle.std.specs.Ordering.{is_lt}
use Rattle.std.specs.declared.cmp.Ordering.{Ordering}
use Rattle.std.proofs.lemmas.List.{drop_more, at_drop_all}
use Rattle.base_lists.specs.Rising.{rises}
use Rattle.base_lists.proofs.ranked.rises.Goals as goal

-- one item more
rises_more : {A : Type 0} (rank : A → A → Ordering) (last item : A) (rest : List A) (below : Bool) → is_lt (rank last item) ≡ below → (below && rises rank (item ∷ rest)) ≡ rises rank (last ∷ item ∷ rest)
rises_more rank last item rest below is = ap (λ b. b && rises rank (item ∷ rest)) (sym is)

pub loop-item-preserved : goal.loop-item-preserved
loop-item-preserved g c =
    let rank = g.T.Ranked.rank in
    let others = c.in-Some.others.now in
    let at = c.loop-item.item-index in
    let item = c.item-item.result in
    let here : drop at others ≡ item ∷ drop (at + 1) others = drop_more others at item (omega arith) ∙ ap (λ first. first ∷ drop (at + 1) others) (sym c.item-item.is) in
    rises_more rank c.loop-item.last.now item (drop (at + 1) others) _ (sym c.is_below-goes_on.ensures ∙ c.if-not-goes_on.false)
    ∙ ap (λ rest. rises rank (c.loop-item.last.now ∷ rest)) (sym here)
    ∙ c.loop-item.invariant

pub returns-then-not-goes_on : goal.returns-then-not-goes_on
returns-then-not-goes_on g c =
    let rank = g.T.Ranked.rank in
    let others = c.in-Some.others.now in
    let at = c.loop-item.item-index in
    let item = c.item-item.result in
    let here : drop at others ≡ item ∷ drop (at + 1) others = drop_more others at item (omega arith) ∙ ap (λ first. first ∷ drop (at + 1) others) (sym c.item-item.is) in
    rises_more rank c.loop-item.last.now item (drop (at + 1) others) _ (sym c.is_below-goes_on.ensures ∙ c.if-not-goes_on.true)
    ∙ ap (λ rest. rises rank (c.loop-item.last.now ∷ rest)) (sym here)
    ∙ c.loop-item.invariant

pub returns : goal.returns
returns g c =
    sym (at_drop_all (λ rest. rises g.T.Ranked.rank (c.loop-item.last.now ∷ rest)) c.in-Some.others.now c.loop-item.item-index c.loop-item-test.false)
    ∙ c.loop-item.invariant
