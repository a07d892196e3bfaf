use Rattle.std.proofs.Common.{length}
use Rattle.path_core.proofs.Searches.{CameTo}
use Rattle.path_core.proofs.patterns.take_step.Given as goal

abbrev pub invariant-loop-first : goal.invariant-loop-first
invariant-loop-first l = CameTo l.extent l.pattern l.path l.patterns l.rest

abbrev pub decreases-loop-first : goal.decreases-loop-first
decreases-loop-first l = length l.patterns
