use Rattle.std.proofs.Common.{refl}
use Rattle.hpack_huff.specs.Code.{code_lengths}
use Rattle.hpack_huff.proofs.laws.codes_fill_the_tree.Goals as goal

pub returns : goal.returns
unfolding code_lengths
returns c = refl
