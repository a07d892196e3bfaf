use Rattle.std.proofs.Common.{rules, ap, ◌∙◌, subst, sym, ◌<◌, ℕ}
use Rattle.turn_lock.proofs.AllowedSteps.{may_join, may_know}
use Rattle.turn_lock.proofs.lock.TurnLock.join.Goals as goal

pub join_seat-requires : goal.join_seat-requires
join_seat-requires g c = let p = c.requires.outside.0 in let q = c.requires.outside.1 in (search rules, search rules, search rules, search rules, may_join _ _ _ _ _ _ _ p.0 q.0 p.3 q.1 q.3)

pub load-requires : goal.load-requires
load-requires g c = let me = c.join_seat.ensures.2 in let p = c.args.pass.now in
    (search rules, search rules, may_know _ _ _ _ _ _ (ap (λ m. m.0.live) me ∙ c.requires.outside.0.0) (subst (λ (n : ℕ). 0 < n) (sym (ap (λ m. m.0.turn.number) me ∙ p.numbered)) p.some))
