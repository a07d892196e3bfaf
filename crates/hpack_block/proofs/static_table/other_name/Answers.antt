use Rattle.std.proofs.Common.{ℕ, List, [], Bor}
use Rattle.hpack_block.specs.StaticTable.{pair}
use Rattle.hpack_block.proofs.TableLemmas.{other_at}
use Rattle.hpack_block.proofs.static_table.other_name.Goals as goal

pub returns : goal.returns
returns c = other_at (λ (name : Bor (List ℕ)). pair name.now []) c.args.names.now c.args.place _ c.requires.names c.requires.place
