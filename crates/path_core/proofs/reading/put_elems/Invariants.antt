use Rattle.std.proofs.Common.{length}
use Rattle.path_core.proofs.Kept.{ElemsRead}
use Rattle.path_core.proofs.reading.put_elems.Given as goal

abbrev pub invariant-loop-rest : goal.invariant-loop-rest
invariant-loop-rest l = ElemsRead l.text l.path l.rest

abbrev pub decreases-loop-rest : goal.decreases-loop-rest
decreases-loop-rest l = length l.rest
