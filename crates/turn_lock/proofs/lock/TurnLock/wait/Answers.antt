use Rattle.std.proofs.Common.{rules}
use Rattle.turn_lock.proofs.AllowedSteps.{may_look}
use Rattle.turn_lock.proofs.lock.TurnLock.wait.Goals as goal

pub load-serving-requires : goal.load-serving-requires
load-serving-requires g c = (search rules, search rules, may_look _ _ _ _ _ _ c.requires.drawn.0 (search rules))
