use Rattle.std.proofs.Common.{◌≡◌}
use Rattle.environment.proofs.running.join_done.Given as goal

-- contracts see no difference
abbrev pub invariant-loop-running : goal.invariant-loop-running
invariant-loop-running g l = l.all ≡ l.fn.all
