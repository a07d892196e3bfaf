use Rattle.std.proofs.Common.{refl}
use Rattle.hpack_block.specs.StaticTable.{static_table}
use Rattle.hpack_block.specs.Written.{block_of}
use Rattle.hpack_block.proofs.laws.worked_blocks.Goals as goal

pub returns : goal.returns
unfolding static_table block_of
returns c = record { indexed = refl; named = refl; far = refl; new = refl }
