-- What a decoder of header blocks is and answers.
use Rattle.std.specs.Prelude.{◌≡◌, ℕ, ◌<◌, ◌≤◌, List, Option, Some, None, Result, Ok, Err}
use Rattle.hpack_block.specs.declared.header.Header.{Header}
use Rattle.hpack_block.specs.declared.header.BlockFault.{BlockFault}
use Rattle.hpack_block.specs.declared.header.BlockFault.TheVariants.{Bad, TooLong, NoMemory}
use Rattle.hpack_block.specs.declared.header.Ended.{Ended}
use Rattle.hpack_block.specs.declared.header.Ended.TheVariants as ended
use Rattle.hpack_block.specs.Tables.{Table, size_of_all}
use Rattle.hpack_block.specs.Block.{Block}

-- The size of a header list counts as a table's does (SETTINGS_MAX_HEADER_LIST_SIZE, RFC 9113 section 6.5.2).
abbrev pub largest_list : ℕ
largest_list = 16384

-- A decoder has its table, or has ended.
abbrev pub State : Type 0
State = Result Table Ended

abbrev pub state_of : Option Ended → Table → State
state_of None table = Ok table
state_of (Some end) table = Err end

-- what a decoder that has ended answers
abbrev pub fault_of : Ended → BlockFault
fault_of ended.Bad = Bad
fault_of ended.NoMemory = NoMemory

-- the block gives the headers, and the table is the last one then
pub record IsRead (table : Table) (octets : List ℕ) (headers : List Header)
    (new : State) : Type 0 where
  pub last : Table
  pub block : Block octets table headers last
  pub new_is : new ≡ Ok last
  pub short : size_of_all headers ≤ largest_list

-- the same, where the list of headers is too long
pub record IsTooLong (table : Table) (octets : List ℕ) (new : State) : Type 0 where
  pub headers : List Header
  pub last : Table
  pub block : Block octets table headers last
  pub new_is : new ≡ Ok last
  pub long : largest_list < size_of_all headers

-- no headers stand in the block
abbrev pub IsBad : Table → List ℕ → Type 0
IsBad table octets = (headers : List Header) (last : Table) → Block octets table headers last → ⊥

-- What a decoder says of a block's octets, and what it is then. After Bad or want of memory it answers that for ever.
abbrev pub Answers : State → List ℕ → Result (List Header) BlockFault → State → Type 0
Answers (Err end) octets result new = (result ≡ Err (fault_of end)) × (new ≡ Err end)
Answers (Ok table) octets (Ok headers) new = IsRead table octets headers new
Answers (Ok table) octets (Err TooLong) new = IsTooLong table octets new
Answers (Ok table) octets (Err Bad) new = IsBad table octets × (new ≡ Err ended.Bad)
Answers (Ok table) octets (Err NoMemory) new = new ≡ Err ended.NoMemory
