use Rattle.std.proofs.Common.{◌≡◌, length}
use Rattle.h2_responses.specs.Meanings.{has_push}
use Rattle.h2_responses.proofs.control.has_push.Given as goal

abbrev pub invariant-loop-rest : goal.invariant-loop-rest
invariant-loop-rest l = has_push l.rest ≡ has_push l.payload

abbrev pub decreases-loop-rest : goal.decreases-loop-rest
decreases-loop-rest l = length l.rest
