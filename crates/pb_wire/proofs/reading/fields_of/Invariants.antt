use Rattle.std.proofs.Common.{length}
use Rattle.pb_wire.proofs.MessageLemmas.{SoFar}
use Rattle.pb_wire.proofs.reading.fields_of.Given as goal

abbrev pub invariant-loop-rest : goal.invariant-loop-rest
invariant-loop-rest l = SoFar l.octets l.fields l.rest

abbrev pub decreases-loop-rest : goal.decreases-loop-rest
decreases-loop-rest l = length l.rest
