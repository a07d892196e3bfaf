use Rattle.std.proofs.Common.{refl}
use Rattle.hpack_huff.specs.Bits.{bits_of}
use Rattle.hpack_huff.proofs.pending.Pending.nothing.Goals as goal

pub returns : goal.returns
unfolding bits_of
returns c = refl
