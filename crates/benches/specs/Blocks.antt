-- The checksum of the headers of blocks.
use Rattle.std.specs.Prelude.{◌≡◌, ℕ, ◌≤◌, List, [], ◌∷◌, fold}
use Rattle.hpack_block.specs.declared.header.Header.{Header}
use Rattle.hpack_block.specs.Tables.{Table, size_of_all}
use Rattle.hpack_block.specs.Block.{Block}
use Rattle.hpack_block.specs.Answers.{largest_list}
use Rattle.benches.specs.Checksum.{added}

-- a name's octets and a value's, one after another
abbrev pub mixed : ℕ → Header → ℕ
mixed before header = fold added (fold added before header.name) header.value

-- The blocks give headers, the first one with this table and each further one with the table that is left, no list of
-- them is too long, and the checksum is that of the headers, in their order.
abbrev pub ReadsBlocks : Table → List (List ℕ) → ℕ → ℕ → Type 0
ReadsBlocks table [] before checksum = checksum ≡ before
ReadsBlocks table (block ∷ blocks) before checksum =
    (headers : List Header) × (last : Table) × Block block table headers last
    × (size_of_all headers ≤ largest_list)
    × ReadsBlocks last blocks (fold mixed before headers) checksum
