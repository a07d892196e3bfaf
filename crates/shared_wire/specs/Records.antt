-- What is recorded of a wire behind a lock: each call that did something to it, or was refused where it was open, in the order of
-- their turns, with whose it was, what it did, and how it left the wire. So where a record stands behind another the two tell what went out between them.
use Rattle.std.specs.Prelude.{◌≡◌, ◌⊎◌, ℕ, ◌+◌, ◌^◌, ◌<◌, true, List, [], ◌∷◌, ◌++◌, length, Result, Ok, Err}
use Rattle.std.specs.List.{AllByRecursion}
use Rattle.environment.specs.Output.{Output, Wrote, FailedWithin, unwritten_output}
use Rattle.h2_frame.specs.ErrorCodes.{flow_control_error}
use Rattle.h2_windows.specs.Written.{octets_of}
use Rattle.h2_events.specs.declared.said.Said.TheVariants.{Status}
use Rattle.h2_events.specs.declared.port.Took.{Took}
use Rattle.h2_events.specs.declared.port.Took.TheVariants as took
use Rattle.h2_events.specs.declared.port.Ready.{Ready}
use Rattle.h2_events.specs.declared.port.Ready.TheVariants as ready
use Rattle.h2_events.specs.declared.event.RecvEvent.{RecvEvent}
use Rattle.h2_events.specs.declared.said.Said.{Said}
use Rattle.h2_send.specs.Accepting.{IsAccepted}
use Rattle.h2_send.specs.Acting.{handled}
use Rattle.h2_send.specs.Conditions.{answer_of}
use Rattle.h2_send.specs.Farewells.{farewell}
use Rattle.h2_send.specs.Inputs.{Input, Event, Speech}
use Rattle.h2_send.specs.Lines.{is_new_stream, overflows}
use Rattle.h2_send.specs.Offers.{has_begun}
use Rattle.h2_send.specs.Port.{Progress, line_of, ready_in}
use Rattle.h2_send.specs.declared.condition.Condition.{Condition}
use Rattle.h2_send.specs.declared.condition.Condition.TheVariants as condition
use Rattle.h2_send.specs.declared.fault.WireFaultOut.{WireFaultOut}
use Rattle.h2_send.specs.declared.fault.WireFaultOut.TheVariants as fault
use Rattle.shared_wire.specs.Parts.{FitTypes, input_parts}

-- The wire was put behind the lock; an event was acted on, or something said on a stream; an event was refused, or a status of
-- HTTP; the connection was ended, with this code; an event was to be acted on, or a status to be said, but there was room for one
-- record alone, and the wire was closed.
pub data Deed : Type 0 where
  Began : Deed
  Gave : Input → Deed
  Refused : Input → Deed
  Ended : ℕ → Deed
  Starved : Input → Deed

-- Whose call it was, what it did, and how far the wire had come behind it.
pub record WireRecord : Type 0 where
  pub author : ℕ
  pub deed : Deed
  pub left : Progress

abbrev pub record_author : WireRecord → ℕ
record_author r = r.author

-- ---- one record behind another

-- what goes out of what is given, by how the wire is left: its frames; a proper front of them; or nothing
abbrev pub GoesOut : Condition → Input → Progress → Output → Type 0
GoesOut condition.Open input at now =
    Wrote (octets_of (handled input (line_of at)).frames) at.output now
GoesOut condition.WriteFault input at now =
    FailedWithin (octets_of (handled input (line_of at)).frames) at.output now
GoesOut condition.NoMemory input at now = now ≡ at.output
GoesOut _ input at now = ⊥

-- and at the end of the connection
abbrev pub EndsOut : Condition → ℕ → Progress → Output → Type 0
EndsOut condition.Finished code at now =
    Wrote (octets_of (farewell code (line_of at))) at.output now
EndsOut condition.WriteFault code at now =
    FailedWithin (octets_of (farewell code (line_of at))) at.output now
EndsOut _ code at now = ⊥

-- no status goes out on the stream: nothing does, or a message was said there, of which nothing waits
abbrev pub TakesNoStatus : ℕ → Progress → Type 0
TakesNoStatus stream at =
    (ready_in stream at ≡ ready.Gone)
    ⊎ ((ready_in stream at ≡ ready.Free) × (has_begun stream (line_of at).streams ≡ true))

-- An event would take a window above 2^31 - 1; octets wait on the stream of a status, or none goes out there.
abbrev pub IsRefused : Input → Progress → Type 0
IsRefused (Event event) at = overflows event (line_of at) ≡ true
IsRefused (Speech stream (Status status)) at =
    (ready_in stream at ≡ ready.Busy) ⊎ TakesNoStatus stream at
IsRefused (Speech stream said) at = ⊥

-- what a call makes of a wire that it found open and so far
abbrev pub Leaves : Deed → Progress → Progress → Type 0
Leaves Began at left = ⊥
Leaves (Gave input) at left =
    IsAccepted input (line_of at)
    × (left.inputs ≡ at.inputs ++ input ∷ [])
    × GoesOut left.condition input at left.output
Leaves (Refused input) at left = IsRefused input at × (left ≡ at)
Leaves (Ended code) at left =
    (left.inputs ≡ at.inputs) × EndsOut left.condition code at left.output
Leaves (Starved input) at left = left ≡ record at { condition = condition.NoMemory }

-- what a call was given has the bits of its types
abbrev pub FitsTypes : Deed → Type 0
FitsTypes Began = Unit {0}
FitsTypes (Gave input) = FitTypes (input_parts input)
FitsTypes (Refused input) = FitTypes (input_parts input)
FitsTypes (Ended code) = code < 2 ^ 32
FitsTypes (Starved input) = FitTypes (input_parts input)

-- it is a port's
abbrev pub IsPorts : ℕ → Deed → Type 0
IsPorts author deed = (0 < author) × (author < 2 ^ 32) × FitsTypes deed

-- Each record is a port's, and stands behind one that left the wire open; its call found the wire so.
abbrev pub Follow : WireRecord → List WireRecord → Type 0
Follow before [] = Unit {0}
Follow before (r ∷ rs) =
    (before.left.condition ≡ condition.Open) × Leaves r.deed before.left r.left
    × IsPorts r.author r.deed × Follow r rs

-- the records of a wire, from the one with which it was put behind its lock, open, and which is no port's
abbrev pub AreRecords : List WireRecord → Type 0
AreRecords [] = ⊥
AreRecords (first ∷ rs) =
    (first.deed ≡ Began) × (first.left.condition ≡ condition.Open) × Follow first rs
    × (first.author ≡ 0)

-- ---- what records come to

abbrev pub last_behind : WireRecord → List WireRecord → WireRecord
last_behind before [] = before
last_behind before (r ∷ rs) = last_behind r rs

-- where there are no records, which is so of no wire
abbrev pub unrecorded : WireRecord
unrecorded = record {
  author = 0;
  deed = Began;
  left = record { inputs = []; condition = condition.Finished; output = unwritten_output };
}

abbrev pub last_record : List WireRecord → WireRecord
last_record [] = unrecorded
last_record (r ∷ rs) = last_behind r rs

-- how far the wire has come
abbrev pub left_in : List WireRecord → Progress
left_in rs = (last_record rs).left

-- what a wire answers that was left so, where it isn't open any more
abbrev pub fault_in : List WireRecord → Result (Unit {0}) WireFaultOut
fault_in rs = answer_of (left_in rs).condition

-- ---- room

-- So many records there is room for. The room of the last one is kept for the record that closes the wire.
abbrev pub most_records : ℕ
most_records = 18446744073709551615

-- there is none left
abbrev pub HasNoRoom : List WireRecord → Type 0
HasNoRoom rs = length rs ≡ most_records

-- there is no room but that of the last one
abbrev pub IsLastRoom : List WireRecord → Type 0
IsLastRoom found = length found + 1 ≡ most_records

-- what a call does where there is room, and where there is none but the last
pub record ByRoom (found : List WireRecord) (Does Starves : Type 0) : Type 0 where
  pub room : (IsLastRoom found → ⊥) → Does
  pub last : IsLastRoom found → Starves

-- ---- what calls do

-- what a piece that was taken left of the wire
abbrev pub TookBy : Took → Condition → Type 0
TookBy took.Taken state = state ≡ condition.Open
TookBy took.WriteFault state = state ≡ condition.WriteFault
TookBy took.NoMemory state = state ≡ condition.NoMemory
TookBy _ state = ⊥

-- Where there is room memory is wanting for a new stream alone.
abbrev pub AnswersEvent : RecvEvent → Result (Unit {0}) WireFaultOut → WireRecord → Type 0
AnswersEvent event (Ok tt) r = (r.deed ≡ Gave (Event event)) × (r.left.condition ≡ condition.Open)
AnswersEvent event (Err fault.Overflow) r = r.deed ≡ Refused (Event event)
AnswersEvent event (Err fault.WriteFault) r =
    (r.deed ≡ Gave (Event event)) × (r.left.condition ≡ condition.WriteFault)
AnswersEvent event (Err fault.NoMemory) r =
    (r.deed ≡ Gave (Event event)) × (r.left.condition ≡ condition.NoMemory)
    × (is_new_stream event ≡ true)

-- A status is Busy just where octets wait on its stream, and Gone just where none goes out there.
abbrev pub AnswersStatus : ℕ → ℕ → Progress → Took → WireRecord → Type 0
AnswersStatus stream status at took.Busy r =
    (r.deed ≡ Refused (Speech stream (Status status))) × (ready_in stream at ≡ ready.Busy)
AnswersStatus stream status at took.Gone r =
    (r.deed ≡ Refused (Speech stream (Status status)))
    × TakesNoStatus stream at
AnswersStatus stream status at answer r =
    (r.deed ≡ Gave (Speech stream (Status status))) × TookBy answer r.left.condition

abbrev pub AnswersEnd : ℕ → Result (Unit {0}) WireFaultOut → WireRecord → Type 0
AnswersEnd code (Ok tt) r = (r.deed ≡ Ended code) × (r.left.condition ≡ condition.Finished)
AnswersEnd code (Err fault.WriteFault) r =
    (r.deed ≡ Ended code) × (r.left.condition ≡ condition.WriteFault)
AnswersEnd code (Err _) r = ⊥

abbrev pub AnswersPiece : ℕ → Said → Took → WireRecord → Type 0
AnswersPiece stream said answer r =
    (r.deed ≡ Gave (Speech stream said)) × TookBy answer r.left.condition

abbrev pub IsOpen : List WireRecord → Type 0
IsOpen found = (left_in found).condition ≡ condition.Open

-- One record more, of which this holds; none and this, where the wire isn't open.
pub record AddsWhereOpen (found added : List WireRecord) (Holds : WireRecord → Type 0)
    (Closed : Type 0) : Type 0 where
  pub is_open : IsOpen found → (r : WireRecord) × (added ≡ r ∷ []) × Holds r
  pub closed : (IsOpen found → ⊥) → (added ≡ []) × Closed

-- these records are added, which are the author's
pub record Adds (author : ℕ) (old added new : List WireRecord) : Type 0 where
  pub whole : new ≡ old ++ added
  pub by : AllByRecursion (λ (r : WireRecord). r.author ≡ author) added
  pub records : AreRecords new

-- so, and this is done by what was found and what is added
pub record AddsSo (author : ℕ) (Does : List WireRecord → List WireRecord → Type 0)
    (old new : List WireRecord) : Type 0 where
  pub added : List WireRecord
  pub adds : Adds author old added new
  pub does : Does old added

-- an event is acted on, where there is room
abbrev pub ActsOn : RecvEvent → Result (Unit {0}) WireFaultOut → List WireRecord
    → List WireRecord → Type 0
ActsOn event answer found added =
    AddsWhereOpen found added
    (λ r. ByRoom found (AnswersEvent event answer r)
    ((r.deed ≡ Starved (Event event)) × (answer ≡ Err fault.NoMemory)))
    (answer ≡ fault_in found)

-- a call is answered with a status of HTTP, where there is room
abbrev pub StatesOn : ℕ → ℕ → Took → List WireRecord → List WireRecord → Type 0
StatesOn stream status answer found added =
    AddsWhereOpen found added
    (λ r. ByRoom found (AnswersStatus stream status (left_in found) answer r)
    ((r.deed ≡ Starved (Speech stream (Status status))) × (answer ≡ took.NoMemory)))
    (answer ≡ took.Gone)

-- the connection is ended
abbrev pub EndsOn : ℕ → Result (Unit {0}) WireFaultOut → List WireRecord → List WireRecord
    → Type 0
EndsOn code answer found added =
    AddsWhereOpen found added (AnswersEnd code answer) (answer ≡ fault_in found)

-- A piece is offered: a record is made of it exactly where its stream is free. Memory is wanting for it where there is no room.
pub record SaysOn (stream : ℕ) (said : Said) (answer : Took)
    (found added : List WireRecord) : Type 0 where
  pub free : ready_in stream (left_in found) ≡ ready.Free
      → (r : WireRecord) × (added ≡ r ∷ []) × AnswersPiece stream said answer r
  pub last : ready_in stream (left_in found) ≡ ready.Free → IsLastRoom found
      → answer ≡ took.NoMemory
  pub busy : ready_in stream (left_in found) ≡ ready.Busy → (added ≡ []) × (answer ≡ took.Busy)
  pub gone : ready_in stream (left_in found) ≡ ready.Gone → (added ≡ []) × (answer ≡ took.Gone)

-- how a stream stands: no record is made of it
pub record ReadsOn (stream : ℕ) (answer : Ready) (found added : List WireRecord) : Type 0 where
  pub none : added ≡ []
  pub is : answer ≡ ready_in stream (left_in found)

-- ---- calls that do more

-- An event that was refused is told as such, unless the connection's end met a fault.
abbrev pub overflow_or : Result (Unit {0}) WireFaultOut → Result (Unit {0}) WireFaultOut
overflow_or (Ok tt) = Err fault.Overflow
overflow_or (Err f) = Err f

-- what comes behind an event in the same turn, by what became of it: where it would have taken a window too far, the end of the
-- connection with FLOW_CONTROL_ERROR
abbrev pub EndsIfTooFar : Result (Unit {0}) WireFaultOut → Result (Unit {0}) WireFaultOut
    → List WireRecord → List WireRecord → Type 0
EndsIfTooFar (Err fault.Overflow) answer found added =
    (ended : Result (Unit {0}) WireFaultOut) × EndsOn flow_control_error ended found added
    × (answer ≡ overflow_or ended)
EndsIfTooFar done answer found added = (added ≡ []) × (answer ≡ done)

-- an event is acted on, or the connection is ended for it
pub record ActsOrEnds (event : RecvEvent) (answer : Result (Unit {0}) WireFaultOut)
    (found added : List WireRecord) : Type 0 where
  pub done : Result (Unit {0}) WireFaultOut
  pub acted : List WireRecord
  pub ended : List WireRecord
  pub whole : added ≡ acted ++ ended
  pub acts : ActsOn event done found acted
  pub ends : EndsIfTooFar done answer (found ++ acted) ended

-- Nothing is done on a wire that was closed by a fault, which is told; else this is.
abbrev pub UnlessFault : {T : Type 0} → Result (Unit {0}) WireFaultOut → List WireRecord
    → Result T WireFaultOut → (T → Type 0) → Type 0
UnlessFault (Err f) added answer Does = (answer ≡ Err f) × (added ≡ [])
UnlessFault {T} (Ok tt) added answer Does = (value : T) × (answer ≡ Ok value) × Does value

abbrev pub ReadsOrTells : ℕ → Result Ready WireFaultOut → List WireRecord → List WireRecord → Type 0
ReadsOrTells stream answer found added =
    UnlessFault (fault_in found) added answer (λ is. ReadsOn stream is found added)

abbrev pub SaysOrTells : ℕ → Said → Result Took WireFaultOut → List WireRecord → List WireRecord
    → Type 0
SaysOrTells stream said answer found added =
    UnlessFault (fault_in found) added answer (λ is. SaysOn stream said is found added)

abbrev pub StatesOrTells : ℕ → ℕ → Result Took WireFaultOut → List WireRecord → List WireRecord
    → Type 0
StatesOrTells stream status answer found added =
    UnlessFault (fault_in found) added answer (λ is. StatesOn stream status is found added)
