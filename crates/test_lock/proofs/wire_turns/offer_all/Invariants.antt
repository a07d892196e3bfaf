use Rattle.std.proofs.Common.{◌≡◌}
use Rattle.test_lock.proofs.wire_turns.offer_all.Given as goal

abbrev pub invariant-loop : goal.invariant-loop
invariant-loop g l = ((goal.iterator-loop g).can_next l.iterator' × (goal.iterator-loop g).is_finite l.iterator') × (l.visit.lock ≡ l.fn.visit.lock)
