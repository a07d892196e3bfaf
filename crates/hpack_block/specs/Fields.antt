-- One header field of a block, in one of the forms that its first octet tells (RFC 7541, section 6).
use Rattle.std.specs.Prelude.{◌≡◌, ℕ, zero, suc, List, Some, nat_lt, if◌then◌else◌}
use Rattle.hpack_block.specs.declared.header.Header.{Header}
use Rattle.hpack_block.specs.declared.form.Form.{Form}
use Rattle.hpack_block.specs.declared.form.Form.TheVariants.{Indexed, WithIndexing, SizeUpdate, WithoutIndexing, NeverIndexed}
use Rattle.hpack_block.specs.Integers.{IsInteger}
use Rattle.hpack_block.specs.Strings.{IsString}
use Rattle.hpack_block.specs.Tables.{Table, with_entry, entry_at, name_at}

-- The first octet begins with the bits 1, 01, 001, 0001 or 0000.
abbrev pub form_of : ℕ → Form
form_of first =
    if nat_lt first 16 then WithoutIndexing
    else if nat_lt first 32 then NeverIndexed
    else if nat_lt first 64 then SizeUpdate
    else if nat_lt first 128 then WithIndexing
    else Indexed

-- the index of an entry, with a prefix of 7 bits (section 6.1)
pub record IsIndexed (table : Table) (octets : List ℕ) (header : Header)
    (rest : List ℕ) : Type 0 where
  pub index : ℕ
  pub is_index : IsInteger 7 octets index rest
  pub entry : entry_at table index ≡ Some header

-- the name of the entry at an index, or where the index is 0 a string that follows
abbrev pub IsName : Table → ℕ → List ℕ → List ℕ → List ℕ → Type 0
IsName table zero octets name rest = IsString octets name rest
IsName table (suc place) octets name rest = (name_at table (suc place) ≡ Some name)
    × (octets ≡ rest)

-- the index of the name, with a prefix of so many bits, the name where the index is 0, and the value (section 6.2)
pub record IsLiteral (bits : ℕ) (table : Table) (octets : List ℕ) (header : Header)
    (rest : List ℕ) : Type 0 where
  pub index : ℕ
  pub after : List ℕ
  pub last : List ℕ
  pub is_index : IsInteger bits octets index after
  pub is_name : IsName table index after header.name last
  pub is_value : IsString last header.value rest

-- In a form, the octets begin with a field that gives the header, and the rest follows. The table is the next one then.
abbrev pub IsField : Form → Table → List ℕ → Header → Table → List ℕ → Type 0
IsField Indexed table octets header next rest = IsIndexed table octets header rest × (table ≡ next)
IsField WithIndexing table octets header next rest =
    IsLiteral 6 table octets header rest × (with_entry header table ≡ next)
IsField SizeUpdate table octets header next rest = ⊥
IsField WithoutIndexing table octets header next rest =
    IsLiteral 4 table octets header rest × (table ≡ next)
IsField NeverIndexed table octets header next rest =
    IsLiteral 4 table octets header rest × (table ≡ next)
