-- Records, worked out.
use Rattle.std.specs.Prelude.{◌≡◌, refl, ℕ, List, [], ◌∷◌, ◌++◌, replicate, false, true, Err}
use Rattle.std.proofs.Common.{arith}
use Rattle.h2_windows.specs.Control.{ping_ack, goaway}
use Rattle.h2_windows.specs.Written.{octets_of}
use Rattle.h2_windows.specs.Written as frames
use Rattle.h2_events.specs.declared.event.RecvEvent.TheVariants as event
use Rattle.h2_events.specs.declared.said.Said.TheVariants.{Message}
use Rattle.h2_send.specs.Inputs.{Input, Event, Speech}
use Rattle.h2_send.specs.Port.{Progress}
use Rattle.h2_send.specs.declared.condition.Condition.{Condition}
use Rattle.h2_send.specs.declared.condition.Condition.TheVariants as condition
use Rattle.h2_send.specs.declared.fault.WireFaultOut.TheVariants as fault
use Rattle.shared_wire.specs.Entries.{entries_of, entry_of, spelling}
use Rattle.shared_wire.specs.Entries as entry
use Rattle.shared_wire.specs.Parts as kind
use Rattle.shared_wire.specs.Records.{Deed, Began, Gave, Refused, Ended, Starved, WireRecord, AreRecords, left_in, fault_in}

abbrev wire : List Input → Condition → List ℕ → ℕ → Progress
wire inputs state taken faults = record {
  inputs = inputs;
  condition = state;
  output = record { taken = taken; faults = faults };
}

abbrev by : ℕ → Deed → Progress → WireRecord
by author deed left = record { author = author; deed = deed; left = left }

abbrev first : WireRecord
first = by 0 Began (wire [] condition.Open [] 0)

abbrev pinged : WireRecord
pinged = by 2 (Gave (Event (event.Ping 7))) (wire (Event (event.Ping 7) ∷ []) condition.Open (octets_of (ping_ack 7 ∷ [])) 0)

-- a PING is answered through one port, and the connection ended through another
abbrev ended : WireRecord
ended = by 1 (Ended 2) (wire (Event (event.Ping 7) ∷ []) condition.Finished (octets_of (ping_ack 7 ∷ []) ++ octets_of (goaway 0 2 ∷ [])) 0)

pub two_authors : AreRecords (first ∷ pinged ∷ ended ∷ [])
two_authors = (refl, refl, (refl, (refl, refl, refl), (omega arith, omega arith, (omega arith, omega arith)), (refl, (refl, refl), (omega arith, omega arith, omega arith), tt)), refl)

pub is_finished : (left_in (first ∷ pinged ∷ ended ∷ [])).condition ≡ condition.Finished
is_finished = refl

-- an event that would make the connection's window too large is refused, and another goes on
pub refused : AreRecords (first ∷ by 1 (Refused (Event (event.Window 0 2147483647))) first.left ∷ pinged ∷ [])
refused = (refl, refl, (refl, (refl, refl), (omega arith, omega arith, (omega arith, omega arith)), (refl, (refl, refl, refl), (omega arith, omega arith, (omega arith, omega arith)), tt)), refl)

-- there was no room but for one record more
abbrev without_room : WireRecord
without_room = by 2 (Starved (Event (event.Ping 7))) (wire [] condition.NoMemory [] 0)

pub starved : AreRecords (first ∷ without_room ∷ [])
starved = (refl, refl, (refl, refl, (omega arith, omega arith, (omega arith, omega arith)), tt), refl)

pub wants_memory : fault_in (first ∷ without_room ∷ []) ≡ Err fault.NoMemory
wants_memory = refl

-- which event that was is kept
pub starved_event : entry_of first.left without_room ≡ record {
  author = 2;
  kind = kind.Ping;
  flag = false;
  stream = 0;
  number = 7;
  place = 0;
  size = 0;
  before = 0;
  after = 0;
  ending = entry.NoMemory;
}
starved_event = refl

-- the answer to the PING has 17 octets, and so has the GOAWAY
pub in_numbers : entries_of (first ∷ pinged ∷ ended ∷ []) ≡ record {
  author = 0;
  kind = kind.Beginning;
  flag = false;
  stream = 0;
  number = 0;
  place = 0;
  size = 0;
  before = 0;
  after = 0;
  ending = entry.Done;
} ∷ record {
  author = 2;
  kind = kind.Ping;
  flag = false;
  stream = 0;
  number = 7;
  place = 0;
  size = 0;
  before = 0;
  after = 17;
  ending = entry.Done;
} ∷ record {
  author = 1;
  kind = kind.End;
  flag = false;
  stream = 0;
  number = 2;
  place = 0;
  size = 0;
  before = 17;
  after = 34;
  ending = entry.Done;
} ∷ []
unfolding frames.spelled
in_numbers = refl

-- a second message of three octets on a stream stands behind the eight of the first one
abbrev said_once : Progress
said_once = wire (Speech 1 (Message (replicate 3 7)) ∷ []) condition.Open (replicate 20 0) 0

pub second_message : entry_of said_once (by 3 (Gave (Speech 1 (Message (replicate 3 7)))) (wire [] condition.WriteFault (replicate 24 0) 1)) ≡ record {
  author = 3;
  kind = kind.Message;
  flag = false;
  stream = 1;
  number = 0;
  place = 8;
  size = 8;
  before = 20;
  after = 24;
  ending = entry.WriteFault;
}
second_message = refl

-- an event that is refused
pub too_large : spelling (entry_of first.left (by 258 (Refused (Event (event.Window 0 2147483647))) first.left)) ≡ (0 ∷ 0 ∷ 1 ∷ 2 ∷ []) ++ replicate 8 0 ++ (127 ∷ 255 ∷ 255 ∷ 255 ∷ []) ++ replicate 32 0 ++ (4 ∷ 0 ∷ 3 ∷ [])
too_large = refl
