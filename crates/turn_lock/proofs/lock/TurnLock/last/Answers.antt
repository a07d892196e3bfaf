use Rattle.std.proofs.Common.{rules, ◌≤◌, subst}
use Rattle.turn_lock.proofs.AllowedSteps.{may_count}
use Rattle.turn_lock.proofs.lock.TurnLock.last.Goals as goal

pub load-requires : goal.load-requires
load-requires g c = (search rules, search rules, may_count _ _ _ _ _ _)

pub returns : goal.returns
returns g c =
    let e = c.enter-value.ensures in let same = e.pass.0 in let counted = c.load.ensures.2 in let k = e.owner in (
      record c.enter-value.new.pass.seat.me.0 { known = c.load.result },
      e.seen.0,
      e.seen.1,
      e.pass.2,
      same.5,
      same.3,
      same.4,
      same.2,
      record { own = k.own; others = k.others; differ = k.differ },
      subst (λ known. known ≤ c.load.result) same.6 counted.1,
      counted.2,
      counted.3 e.pass.1.0,
    )
