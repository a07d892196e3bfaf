use Rattle.std.proofs.Common.{refl}
use Rattle.hpack_block.specs.StaticTable.{static_table}
use Rattle.hpack_block.proofs.static_table.static_entry.Goals as goal

pub first_entry-requires-clause-entries : goal.first_entry-requires-clause-entries
unfolding static_table
first_entry-requires-clause-entries c = refl

pub other_name-requires-clause-names : goal.other_name-requires-clause-names
unfolding static_table
other_name-requires-clause-names c = refl
