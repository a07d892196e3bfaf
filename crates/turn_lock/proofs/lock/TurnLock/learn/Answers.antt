use Rattle.std.proofs.Common.{rules}
use Rattle.turn_lock.proofs.AllowedSteps.{may_count}
use Rattle.turn_lock.proofs.lock.TurnLock.learn.Goals as goal

pub load-known-requires : goal.load-known-requires
load-known-requires g c = (search rules, search rules, may_count _ _ _ _ _ _)
