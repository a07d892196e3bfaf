use Rattle.turn_lock.specs.Passes.{IsOutside, IsSamePass}
use Rattle.test_lock.proofs.lock_turns.take_turns.Given as goal

abbrev pub invariant-loop-turn : goal.invariant-loop-turn
invariant-loop-turn g l = record { same : IsSamePass l.fn.pass.seat l.pass.seat; outside : IsOutside l.pass.seat }
