use Rattle.std.proofs.Common.{◌≤◌}
use Rattle.test_lock.proofs.tally.Tally.has_turns_of.Given as goal

abbrev pub invariant-loop-other : goal.invariant-loop-other
invariant-loop-other l = l.next ≤ l.fn.turns
