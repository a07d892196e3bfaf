-- The headers of a block while it is read. Only private functions cite these.
use Rattle.std.specs.Prelude.{ℕ, ◌-◌, List, [], ◌∷◌, ◌++◌, nat_le, Option, Some, None, Result, Ok, Err, if◌then◌else◌}
use Rattle.hpack_block.specs.declared.header.Header.{Header}
use Rattle.hpack_block.specs.declared.header.BlockFault.{BlockFault}
use Rattle.hpack_block.specs.declared.header.BlockFault.TheVariants.{TooLong}
use Rattle.hpack_block.specs.Tables.{size_of, size_of_all}
use Rattle.hpack_block.specs.Answers.{largest_list}

-- headers that are kept while their list isn't too long
abbrev pub within_limit : List Header → Option (List Header)
within_limit headers = if nat_le (size_of_all headers) largest_list then Some headers else None

-- one header more
abbrev pub with_header : Header → Option (List Header) → Option (List Header)
with_header header None = None
with_header header (Some headers) = within_limit (headers ++ header ∷ [])

-- what the headers answer at the end of the block
abbrev pub list_or_fault : Option (List Header) → Result (List Header) BlockFault
list_or_fault None = Err TooLong
list_or_fault (Some headers) = Ok headers

-- what is left of a room beside an entry, if it fits
abbrev pub room_beside : ℕ → Header → Option ℕ
room_beside room header = if nat_le (size_of header) room then Some (room - size_of header)
    else None
