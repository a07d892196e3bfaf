use Rattle.std.proofs.Common.{ℕ, List, Bor}
use Rattle.hpack_block.specs.StaticTable.{pair}
use Rattle.hpack_block.proofs.TableLemmas.{first_at}
use Rattle.hpack_block.proofs.static_table.first_entry.Goals as goal

pub returns : goal.returns
returns c = first_at (λ (e : Bor (List ℕ) × Bor (List ℕ)). pair e.0.now e.1.now) c.args.entries.now c.args.place _ c.requires.entries c.requires.place
