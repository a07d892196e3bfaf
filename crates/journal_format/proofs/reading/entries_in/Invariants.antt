use Rattle.std.proofs.Common.{length}
use Rattle.journal_format.proofs.Loop.{SoFar}
use Rattle.journal_format.proofs.reading.entries_in.Given as goal

abbrev pub invariant-loop-gate : goal.invariant-loop-gate
invariant-loop-gate l = SoFar l.limits l.octets l.so_far l.entries l.rest

abbrev pub decreases-loop-gate : goal.decreases-loop-gate
decreases-loop-gate l = length l.rest
