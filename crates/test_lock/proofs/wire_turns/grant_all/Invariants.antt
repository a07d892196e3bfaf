use Rattle.std.proofs.Common.{◌≡◌}
use Rattle.test_lock.proofs.wire_turns.grant_all.Given as goal

abbrev pub invariant-loop : goal.invariant-loop
invariant-loop g l = l.visit.lock ≡ l.fn.visit.lock
