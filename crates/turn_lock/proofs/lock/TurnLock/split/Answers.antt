use Rattle.std.proofs.Common.{rules, ap, ◌∙◌}
use Rattle.turn_lock.proofs.AllowedSteps.{may_split, may_join}
use Rattle.turn_lock.proofs.lock.TurnLock.split.Goals as goal

pub split_seat-seat-requires : goal.split_seat-seat-requires
split_seat-seat-requires g c = (search rules, search rules, may_split _ _ _ _ _ c.requires.outside.0)

pub join_seat-requires : goal.join_seat-requires
join_seat-requires g c = let o = c.requires.outside in let p = ap (λ m. m.0) c.split_seat-seat.ensures.2 in let r = ap (λ m. m.0) c.split_seat-seat.ensures.4 in let e = c.in-None.ensures.none in let q = ap (λ m. m.0) e.1 in
    (search rules, search rules, search rules, search rules, may_join _ _ _ _ _ _ _ (ap (λ v. v.live) p ∙ o.0) (ap (λ v. v.live) q ∙ ap (λ v. v.live) r) (ap (λ v. v.turn.found) p ∙ o.3) (ap (λ v. v.turn.ticket) q ∙ ap (λ v. v.turn.ticket) r) (ap (λ v. v.turn.found) q ∙ ap (λ v. v.turn.found) r))
