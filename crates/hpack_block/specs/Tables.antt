-- The dynamic table, and the indices of both tables (RFC 7541, sections 2.3, 4.1, 4.3 and 4.4).
use Rattle.std.specs.Prelude.{ℕ, zero, suc, ◌+◌, ◌-◌, List, [], ◌∷◌, ◌++◌, length, nat_le, Option, Some, None, option_map, slice_get, if◌then◌else◌}
use Rattle.std.specs.List.{sum_by}
use Rattle.hpack_block.specs.declared.header.Header.{Header}
use Rattle.hpack_block.specs.StaticTable.{static_table}

-- what the table's maximum size is at first, and at most (SETTINGS_HEADER_TABLE_SIZE, RFC 9113 section 6.5.2)
abbrev pub largest_table : ℕ
largest_table = 4096

-- the entries, the newest first, and the size that they may have together
pub record Table : Type 0 where
  pub entries : List Header
  pub maximum : ℕ

-- the size of an entry (section 4.1)
abbrev pub size_of : Header → ℕ
size_of header = length header.name + length header.value + 32

abbrev pub size_of_all : List Header → ℕ
size_of_all headers = sum_by size_of headers

-- The oldest entries are evicted until the others have room: the longest front of the list that fits is kept.
abbrev pub fitting_entries : ℕ → List Header → List Header
fitting_entries room [] = []
fitting_entries room (entry ∷ entries) =
    if nat_le (size_of entry) room then entry ∷ fitting_entries (room - size_of entry) entries
    else []

-- An entry is added (section 4.4). One that is larger than the table's maximum size empties the table.
abbrev pub with_entry : Header → Table → Table
with_entry header table =
    record {
      entries = fitting_entries table.maximum (header ∷ table.entries);
      maximum = table.maximum;
    }

-- the maximum size is changed (section 4.3)
abbrev pub with_maximum : ℕ → Table → Table
with_maximum maximum table =
    record { entries = fitting_entries maximum table.entries; maximum = maximum }

-- a connection's table at first
abbrev pub empty_table : Table
empty_table = record { entries = []; maximum = largest_table }

-- the entry at an index: the static table's, and behind it the dynamic table's. At index 0 there is none.
abbrev pub entry_at : Table → ℕ → Option Header
entry_at table zero = None
entry_at table (suc place) = slice_get (static_table ++ table.entries) place

abbrev pub name_at : Table → ℕ → Option (List ℕ)
name_at table index = option_map (λ (header : Header). header.name) (entry_at table index)
