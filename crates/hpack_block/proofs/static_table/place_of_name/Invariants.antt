use Rattle.std.proofs.Common.{◌≡◌, ℕ, ◌<◌, false, get_or}
use Rattle.hpack_block.specs.StaticTable.{nothing, static_table}
use Rattle.hpack_block.specs.Written.{is_name}
use Rattle.hpack_block.proofs.static_table.place_of_name.Given as goal

-- no earlier entry is it
abbrev pub invariant-loop-place : goal.invariant-loop-place
invariant-loop-place l = (k : ℕ) → k < l.place → is_name l.name (get_or static_table k nothing) ≡ false
