use Rattle.hpack_block.proofs.BlockLemmas.{one_block}
use Rattle.hpack_block.proofs.laws.one_reading.Goals as goal

pub returns : goal.returns
returns c = one_block
