-- A record in numbers, and as octets: 51 of them.
use Rattle.std.specs.Prelude.{ℕ, ◌^◌, ◌<◌, Bool, false, List, [], ◌∷◌, ◌++◌, length, if◌then◌else◌}
use Rattle.std.specs.Int.{w32, w64, to_be_bytes}
use Rattle.grpc_core.specs.Messages.{framed}
use Rattle.h2_windows.specs.Holding.{counted}
use Rattle.h2_events.specs.declared.said.Said.TheVariants as said
use Rattle.h2_send.specs.Inputs.{Input, Event, Speech}
use Rattle.h2_send.specs.Messages.{octets_said}
use Rattle.h2_send.specs.Port.{Progress, said_so_far}
use Rattle.h2_send.specs.declared.condition.Condition.{Condition}
use Rattle.h2_send.specs.declared.condition.Condition.TheVariants as condition
use Rattle.shared_wire.specs.Parts.{Kind, Parts, Beginning, Settings, SettingsAck, Ping, Window, Call, TooLong, Data, Trailers, Reset, StreamFault, GoAway, Message, Finish, Status, End, input_parts}
use Rattle.shared_wire.specs.Records.{Deed, WireRecord}
use Rattle.shared_wire.specs.Records as deed

-- How the call ended: a write failed, memory was wanting, a window would have been too large, or octets waited on the stream of a
-- status, or none goes out there; else as it was to.
pub data Ending : Type 0 where
  Done : Ending
  WriteFault : Ending
  NoMemory : Ending
  Overflow : Ending
  Refused : Ending

pub record Entry : Type 0 where
  pub author : ℕ
  pub kind : Kind
  -- of SETTINGS whether the table's size is among them, and of headers and DATA whether they end their stream
  pub flag : Bool
  -- the stream, or 0
  pub stream : ℕ
  -- an initial window, the octets of a PING, an increment, a length with padding, a code, or a status
  pub number : ℕ
  -- where a message's octets begin among those of its stream, and how many there are
  pub place : ℕ
  pub size : ℕ
  -- how many octets had gone out of the wire before the call, and behind it
  pub before : ℕ
  pub after : ℕ
  pub ending : Ending

abbrev pub deed_parts : Deed → Parts
deed_parts deed.Began = (Beginning, false, 0, 0)
deed_parts (deed.Gave input) = input_parts input
deed_parts (deed.Refused input) = input_parts input
deed_parts (deed.Ended code) = (End, false, 0, code)
deed_parts (deed.Starved input) = input_parts input

-- A message has its octets behind those of all messages that were said on its stream before.
abbrev pub place_in : Input → Progress → ℕ × ℕ
place_in (Speech stream (said.Message octets)) at =
    (counted (length (octets_said (said_so_far stream at))), counted (length (framed octets)))
place_in other at = (0, 0)

abbrev pub place_of : Deed → Progress → ℕ × ℕ
place_of (deed.Gave input) at = place_in input at
place_of other at = (0, 0)

abbrev pub ending_of : Deed → Condition → Ending
ending_of (deed.Starved input) state = NoMemory
ending_of (deed.Refused (Event event)) state = Overflow
ending_of (deed.Refused (Speech stream said)) state = Refused
ending_of deed condition.WriteFault = WriteFault
ending_of deed condition.NoMemory = NoMemory
ending_of deed state = Done

-- the record of a call that found the wire so far
abbrev pub entry_of : Progress → WireRecord → Entry
entry_of at r = let parts = deed_parts r.deed in let place = place_of r.deed at in record {
  author = r.author;
  kind = parts.0;
  flag = parts.1;
  stream = parts.2;
  number = parts.3;
  place = place.0;
  size = place.1;
  before = counted (length at.output.taken);
  after = counted (length r.left.output.taken);
  ending = ending_of r.deed r.left.condition;
}

-- each record's call found the wire as the record before left it
abbrev pub entries_behind : WireRecord → List WireRecord → List Entry
entries_behind before [] = []
entries_behind before (r ∷ rs) = entry_of before.left r ∷ entries_behind r rs

abbrev pub entries_of : List WireRecord → List Entry
entries_of [] = []
entries_of (first ∷ rs) = entry_of first.left first ∷ entries_behind first rs

-- ---- as octets

abbrev pub kind_code : Kind → ℕ
kind_code Beginning = 0
kind_code Settings = 1
kind_code SettingsAck = 2
kind_code Ping = 3
kind_code Window = 4
kind_code Call = 5
kind_code TooLong = 6
kind_code Data = 7
kind_code Trailers = 8
kind_code Reset = 9
kind_code StreamFault = 10
kind_code GoAway = 11
kind_code Message = 12
kind_code Finish = 13
kind_code Status = 14
kind_code End = 15

abbrev pub ending_code : Ending → ℕ
ending_code Done = 0
ending_code WriteFault = 1
ending_code NoMemory = 2
ending_code Overflow = 3
ending_code Refused = 4

-- the author and the stream in 4 octets, each other number in 8, and all else in one
abbrev pub spelling : Entry → List ℕ
spelling e =
    to_be_bytes w32 e.author ++ (to_be_bytes w32 e.stream ++ (to_be_bytes w64 e.number
    ++ (to_be_bytes w64 e.place ++ (to_be_bytes w64 e.size ++ (to_be_bytes w64 e.before
    ++ (to_be_bytes w64 e.after ++ (kind_code e.kind ∷ (if e.flag then 1 else 0)
    ∷ ending_code e.ending ∷ [])))))))

-- each number has room in its octets
pub record HasRoom (e : Entry) : Type 0 where
  pub author : e.author < 2 ^ 32
  pub stream : e.stream < 2 ^ 32
  pub number : e.number < 2 ^ 64
  pub place : e.place < 2 ^ 64
  pub size : e.size < 2 ^ 64
  pub before : e.before < 2 ^ 64
  pub after : e.after < 2 ^ 64
