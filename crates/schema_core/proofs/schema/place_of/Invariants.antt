use Rattle.std.proofs.Common.{◌-◌}
use Rattle.schema_core.specs.inner.Index.{IsBetween}
use Rattle.schema_core.specs.inner.Wanted.{wanted_names}
use Rattle.schema_core.proofs.schema.place_of.Given as goal

abbrev pub invariant-loop-low : goal.invariant-loop-low
invariant-loop-low l = IsBetween l.nodes l.order (wanted_names l.wanted) l.low l.high

abbrev pub decreases-loop-low : goal.decreases-loop-low
decreases-loop-low l = l.high - l.low
