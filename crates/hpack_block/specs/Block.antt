-- Header blocks (RFC 7541, sections 3, 4.2 and 6.3).
use Rattle.std.specs.Prelude.{◌≡◌, ℕ, ◌≤◌, List, [], ◌∷◌, slice_index}
use Rattle.hpack_block.specs.declared.header.Header.{Header}
use Rattle.hpack_block.specs.declared.form.Form.TheVariants.{SizeUpdate}
use Rattle.hpack_block.specs.Integers.{IsInteger}
use Rattle.hpack_block.specs.Tables.{Table, largest_table, with_maximum}
use Rattle.hpack_block.specs.Fields.{form_of, IsField}

-- The octets begin with an update of the table's maximum size, with a prefix of 5 bits (section 6.3).
pub record IsUpdate (octets : List ℕ) (size : ℕ) (rest : List ℕ) : Type 0 where
  pub is_form : form_of (slice_index octets 0) ≡ SizeUpdate
  pub is_size : IsInteger 5 octets size rest
  pub allowed : size ≤ largest_table

-- The octets begin with updates to these sizes, one behind the other, and the rest follows.
abbrev pub AreUpdates : Table → List ℕ → List ℕ → Table → List ℕ → Type 0
AreUpdates table octets [] next rest = (table ≡ next) × (octets ≡ rest)
AreUpdates table octets (size ∷ sizes) next rest =
    (after : List ℕ) × IsUpdate octets size after
    × AreUpdates (with_maximum size table) after sizes next rest

-- The octets are fields that give these headers, one behind the other.
abbrev pub AreFields : Table → List ℕ → List Header → Table → Type 0
AreFields table octets [] last = (octets ≡ []) × (table ≡ last)
AreFields table octets (header ∷ headers) last =
    (next : Table) × (rest : List ℕ)
    × IsField (form_of (slice_index octets 0)) table octets header next rest
    × AreFields next rest headers last

-- The octets are a block that gives these headers where the table is as said, and the last one afterwards. Updates of
-- the table's size stand before the first field only (section 4.2).
pub record Block (octets : List ℕ) (table : Table) (headers : List Header)
    (last : Table) : Type 0 where
  pub sizes : List ℕ
  pub middle : Table
  pub rest : List ℕ
  pub updates : AreUpdates table octets sizes middle rest
  pub fields : AreFields middle rest headers last
