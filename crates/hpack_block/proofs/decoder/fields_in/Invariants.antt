use Rattle.std.proofs.Common.{length}
use Rattle.hpack_block.proofs.BlockLemmas.{Gathering}
use Rattle.hpack_block.proofs.decoder.fields_in.Given as goal

abbrev pub invariant-loop-rest : goal.invariant-loop-rest
invariant-loop-rest l = Gathering l.fn.table l.octets l.table l.rest l.list

abbrev pub decreases-loop-rest : goal.decreases-loop-rest
decreases-loop-rest l = length l.rest
