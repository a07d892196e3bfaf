use Rattle.std.proofs.Common.{◌-◌}
use Rattle.plain_tree.specs.inner.Places.{IsGap}
use Rattle.plain_tree.proofs.rows.place_of.Given as goal

abbrev pub invariant-loop-low : goal.invariant-loop-low
invariant-loop-low l = IsGap l.row l.rows l.low l.high

abbrev pub decreases-loop-low : goal.decreases-loop-low
decreases-loop-low l = l.high - l.low
