use Rattle.std.proofs.Common.{refl}
use Rattle.hpack_block.specs.StaticTable.{static_table}
use Rattle.hpack_block.proofs.laws.worked_tables.Goals as goal

pub returns : goal.returns
unfolding static_table
returns c = record { length = refl; first = refl; last = refl; past = refl; zero = refl; size = refl; newest = refl; oldest = refl; evicted = refl; larger = refl }
