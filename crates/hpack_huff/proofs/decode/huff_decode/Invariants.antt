use Rattle.std.proofs.Common.{take}
use Rattle.hpack_huff.specs.Bits.{octet_bits}
use Rattle.hpack_huff.specs.inner.Taken.{Takes, IsUnfinished}
use Rattle.hpack_huff.proofs.decode.huff_decode.Given as goal

-- what was added stands for the bits that were read, up to those that are pending
abbrev pub invariant-loop-octet : goal.invariant-loop-octet
invariant-loop-octet l =
    Takes (octet_bits (take l.octet-index l.octets)) l.pending l.fn.out l.out × IsUnfinished l.pending
