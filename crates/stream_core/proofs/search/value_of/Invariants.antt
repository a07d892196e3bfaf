use Rattle.std.proofs.Common.{◌-◌}
use Rattle.stream_core.specs.inner.Gaps.{IsBetween}
use Rattle.stream_core.proofs.search.value_of.Given as goal

abbrev pub invariant-loop-low : goal.invariant-loop-low
invariant-loop-low l = IsBetween l.path l.rows l.low l.high

abbrev pub decreases-loop-low : goal.decreases-loop-low
decreases-loop-low l = l.high - l.low
