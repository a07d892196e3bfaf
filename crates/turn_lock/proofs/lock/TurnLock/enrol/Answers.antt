use Rattle.std.proofs.Common.{rules, ap, sym, ◌∙◌, refl}
use Rattle.turn_lock.proofs.AllowedSteps.{may_count, may_enrol}
use Rattle.turn_lock.proofs.lock.TurnLock.enrol.Goals as goal

pub load-known-requires : goal.load-known-requires
load-known-requires g c = (search rules, search rules, may_count _ _ _ _ _ _)

pub compare_exchange-found-requires : goal.compare_exchange-found-requires
compare_exchange-found-requires g c = let i = c.loop.invariant in let q = ap (λ m. m.0) i.me in
    (search rules, search rules, may_enrol _ _ _ _ _ _ _ _ refl c.if-known-ge-MOST_NUMBERS.false (sym (ap (λ v. v.known) q)) (ap (λ v. v.turn) q ∙ c.requires.new.0) (ap (λ v. v.live) q ∙ c.requires.live))
