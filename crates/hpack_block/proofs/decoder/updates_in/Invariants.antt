use Rattle.std.proofs.Common.{length}
use Rattle.hpack_block.specs.inner.Steps.{Leads}
use Rattle.hpack_block.proofs.decoder.updates_in.Given as goal

abbrev pub invariant-loop-rest : goal.invariant-loop-rest
invariant-loop-rest l = Leads l.octets l.fn.table l.rest l.table

abbrev pub decreases-loop-rest : goal.decreases-loop-rest
decreases-loop-rest l = length l.rest
