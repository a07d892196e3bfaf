-- The one form in which headers are written: what the static table has is indexed, else a literal is not added to the
-- table, with the least index of its name in the static table. No string is in the Huffman code.
use Rattle.std.specs.Prelude.{ℕ, ◌+◌, ◌-◌, ◌^◌, ◌≤◌, Bool, List, [], ◌∷◌, ◌++◌, length, Option, Some, None, nat_lt, nat_eq, ◌&&◌, if◌then◌else◌}
use Rattle.std.specs.List.{position, flat_map}
use Rattle.std.specs.Cmp.Lexicographic.{pointwise}
use Rattle.base_lists.specs.SevenBits.{groups_of}
use Rattle.hpack_block.specs.declared.header.Header.{Header}
use Rattle.hpack_block.specs.Integers.{largest_integer}
use Rattle.hpack_block.specs.StaticTable.{static_table}

-- an integer with a prefix of so many bits, above which the mark stands
abbrev pub integer_of : ℕ → ℕ → ℕ → List ℕ
integer_of bits mark n =
    if nat_lt n (2 ^ bits - 1) then (mark + n) ∷ []
    else (mark + (2 ^ bits - 1)) ∷ groups_of 4 (n - (2 ^ bits - 1))

abbrev pub string_of : List ℕ → List ℕ
string_of text = integer_of 7 0 (length text) ++ text

abbrev pub same_octets : List ℕ → List ℕ → Bool
same_octets a b = pointwise nat_eq a b

abbrev pub is_pair : Header → Header → Bool
is_pair header entry = same_octets entry.name header.name && same_octets entry.value header.value

abbrev pub is_name : List ℕ → Header → Bool
is_name name entry = same_octets entry.name name

-- the first place of the header in the static table, counted from 0
abbrev pub place_of_pair : Header → Option ℕ
place_of_pair header = position (is_pair header) static_table

abbrev pub place_of_name : List ℕ → Option ℕ
place_of_name name = position (is_name name) static_table

-- the index of the name, or 0 and the name
abbrev pub name_with : List ℕ → Option ℕ → List ℕ
name_with name None = 0 ∷ string_of name
name_with name (Some place) = integer_of 4 0 (place + 1)

abbrev pub name_of : List ℕ → List ℕ
name_of name = name_with name (place_of_name name)

abbrev pub literal_of : Header → List ℕ
literal_of header = name_of header.name ++ string_of header.value

abbrev pub field_with : Header → Option ℕ → List ℕ
field_with header None = literal_of header
field_with header (Some place) = integer_of 7 128 (place + 1)

abbrev pub field_of : Header → List ℕ
field_of header = field_with header (place_of_pair header)

unfoldable pub block_of : List Header → List ℕ
block_of headers = flat_map field_of headers

-- an update of the table's maximum size (section 6.3)
abbrev pub update_of : ℕ → List ℕ
update_of size = integer_of 5 32 size

-- what can be written
pub record IsShort (header : Header) : Type 0 where
  pub name : length header.name ≤ largest_integer
  pub value : length header.value ≤ largest_integer
