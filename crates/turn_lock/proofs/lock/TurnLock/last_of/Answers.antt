use Rattle.std.proofs.Common.{◌≡◌, ◌≤◌, ◌∷◌, ◌∙◌, rules, length, map, sym, ap, subst}
use Rattle.turn_lock.specs.Passes.{ended_number, numbers_of}
use Rattle.turn_lock.proofs.AllowedSteps.{may_census}
use Rattle.turn_lock.proofs.Covering.{by_one, none_of_zero}
use Rattle.turn_lock.proofs.lock.TurnLock.last_of.Goals as goal

pub load-given-requires : goal.load-given-requires
load-given-requires g c = (search rules, search rules, may_census _ _ _ _ _ _)

pub returns-then-given-passes : goal.returns-then-given-passes
returns-then-given-passes g c =
    let e = c.enter-value.ensures in let same = e.pass.0 in let found = c.enter-value.new.pass.seat.me.0 in
    let counted = c.load-given.ensures.2.0 in let k = e.owner in
    let ended_is = same.5 in
    let number_is = same.2 in
    let many : length (numbers_of found) ≡ c.load-given.result =
    ap (λ n. length (n ∷ map ended_number found.ended)) number_is
    ∙ ap (λ es. length (c.args.pass.seat.me.0.turn.number ∷ map ended_number es)) ended_is
    ∙ c.requires.counted ∙ sym c.if-given-passes.true in
    let up_to = counted.3 e.pass.1.0 in (
      record found { known = c.load-given.result },
      e.seen.0,
      e.seen.1,
      e.pass.2,
      same.5,
      same.3,
      same.4,
      same.2,
      record { own = k.own; others = k.others; differ = k.differ },
      subst (λ known. known ≤ c.load-given.result) same.6 counted.1,
      counted.2,
      up_to,
      by_one c.load-given.result (numbers_of found) k.differ (none_of_zero found.turn.number found.ended e.pass.1.1 (λ i e at. (k.others i e at).some)) c.load-given.ensures.2.1 many _ _ up_to,
    )
