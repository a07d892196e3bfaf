use Rattle.std.proofs.Common.{◌≡◌, ◌+◌, length}
use Rattle.path_core.specs.inner.Searching.{test_by}
use Rattle.path_core.proofs.Searches.{passes_from}
use Rattle.path_core.proofs.patterns.passes.Given as goal

-- the answer is that of what is left
abbrev pub invariant-loop-elems : goal.invariant-loop-elems
invariant-loop-elems l = test_by l.extent l.pattern l.path ≡ passes_from l.anchored l.extent l.patterns l.rest

-- a skip leaves less of the pattern, and no more of the path
abbrev pub decreases-loop-elems : goal.decreases-loop-elems
decreases-loop-elems l = length l.patterns + length l.rest
