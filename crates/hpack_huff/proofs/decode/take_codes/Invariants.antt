use Rattle.std.proofs.Common.{length}
use Rattle.hpack_huff.specs.inner.Taken.{Takes}
use Rattle.hpack_huff.proofs.decode.take_codes.Given as goal

-- what was added so far stands for the bits that were taken
abbrev pub invariant-loop-octet : goal.invariant-loop-octet
invariant-loop-octet l = Takes l.fn.pending l.pending l.fn.out l.out

-- each code has bits
abbrev pub decreases-loop-octet : goal.decreases-loop-octet
decreases-loop-octet l = length l.pending
