use Rattle.std.proofs.Common.{◌≡◌, length}
use Rattle.stream_core.proofs.states.no_findings.Given as goal

abbrev pub invariant-loop-group : goal.invariant-loop-group
invariant-loop-group l = length l.found.items ≡ l._group-index
