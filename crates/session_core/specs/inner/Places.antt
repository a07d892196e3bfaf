-- Where a session stands between two of its steps, and where it ends.
use Rattle.std.specs.Prelude.{◌≡◌, ◌⊎◌, ℕ, List, [], ◌∷◌, ◌++◌, length, Some, Ok}
use Rattle.std.specs.List.{AllByRecursion}
use Rattle.environment.specs.Input.{Input as Source, Read}
use Rattle.environment.specs.Output.{Output, Wrote}
use Rattle.base_kinds.specs.declared.request.ListMode.TheVariants as modes
use Rattle.base_kinds.specs.Schema.{SchemaNode}
use Rattle.h2_frame.specs.Frames.{Frame}
use Rattle.h2_windows.specs.Written.{octets_of}
use Rattle.h2_events.specs.declared.event.RecvEvent.{RecvEvent}
use Rattle.h2_streams.specs.Calls.{Moment, read, events_of}
use Rattle.h2_recv.specs.declared.reader.Reader.{Reader}
use Rattle.h2_recv.specs.Receiving.{State, ReadsWithEnds, new_reader}
use Rattle.h2_send.specs.Accepting.{AreAccepted}
use Rattle.h2_send.specs.Conditions.{IsClosed}
use Rattle.h2_send.specs.Lines.{first_line}
use Rattle.h2_send.specs.Outputs.{frames_of, frames_until}
use Rattle.h2_send.specs.Port.{Progress}
use Rattle.h2_send.specs.Inputs.{Input}
use Rattle.h2_send.specs.declared.condition.Condition.TheVariants as condition
use Rattle.grpc_requests.specs.declared.request.Request.{Request}
use Rattle.book_port.specs.Ports.{PortView}
use Rattle.session_core.specs.declared.how.How.{How}
use Rattle.session_core.specs.declared.how.How.TheVariants as hows
use Rattle.session_core.specs.declared.served.Served.{Served}
use Rattle.session_core.specs.declared.waiting.Waiting.{Waiting}
use Rattle.session_core.specs.Reading.{IsConnectionError, IsReadPartly, IsGiven, IsMadeOf}
use Rattle.session_core.specs.Deeds.{Deed}
use Rattle.session_core.specs.inner.Feeders.{IsServedBeside, FeederState}
use Rattle.session_core.specs.inner.Sending.{IsOneMore, spoken}
use Rattle.session_core.specs.Rounds.{HadTurns, turns_on}
use Rattle.session_core.specs.Runs.{Outside, IsGivenBeside, IsSettled, IsAtRest, start_of}
use Rattle.session_core.specs.Saying.{AreBehind}
use Rattle.session_core.specs.Serving.{Start, Standing, Course, standing_of}
use Rattle.session_core.specs.Writing.{IsBroken, IsLostLast, IsWritten}

abbrev pub course_of : List Moment → List Input → List Waiting → List Request → Standing → Course
course_of moments inputs waiting owed standing = record {
  moments = moments;
  inputs = inputs;
  waiting = waiting;
  owed = owed;
  standing = standing;
}

-- The sending half is open, and what its inputs cause has gone out behind the greeting.
pub record IsWriting (output : Output) (at : Progress) : Type 0 where
  pub is_open : at.condition ≡ condition.Open
  pub accepted : AreAccepted first_line at.inputs
  pub wrote : Wrote (octets_of (frames_of at.inputs)) output at.output

-- the receiving half, the sending half and what goes with it, the events that the table of calls has heard, and the rest of the course
pub record Place : Type 0 where
  pub recv : State
  pub sending : Progress
  pub side : FeederState
  pub heard : List RecvEvent
  pub waiting : List Waiting
  pub owed : List Request
  pub standing : Standing

abbrev pub place_of : State → Progress → FeederState → List RecvEvent → List Waiting → List Request
    → Standing → Place
place_of recv sending side heard waiting owed standing = record {
  recv = recv;
  sending = sending;
  side = side;
  heard = heard;
  waiting = waiting;
  owed = owed;
  standing = standing;
}

-- These octets were read, and all that they ask is served but for what is owed.
pub record Stands (fed : List ℕ) (start : Start) (output : Output) (octets : List ℕ)
    (place : Place) : Type 0 where
  pub moments : List Moment
  pub reader : Reader
  pub recv_is : place.recv ≡ Ok reader
  pub frames : ReadsWithEnds new_reader octets moments reader
  pub writing : IsWriting output place.sending
  pub heard_is : place.heard ≡ events_of moments
  pub served : IsServedBeside fed start place.side
      (course_of moments place.sending.inputs place.waiting place.owed place.standing)

-- Between two frames it is at rest.
pub record Rests (fed : List ℕ) (start : Start) (output : Output) (octets : List ℕ)
    (place : Place) : Type 0 where
  pub stands : Stands fed start output octets place
  pub rest : IsAtRest place.owed place.sending.inputs place.waiting place.standing

-- A frame was read that means this, and isn't served yet.
pub record HasCome (fed : List ℕ) (start : Start) (output : Output) (octets : List ℕ)
    (event : RecvEvent) (place : Place) : Type 0 where
  pub moments : List Moment
  pub frame : Frame
  pub reader : Reader
  pub recv_is : place.recv ≡ Ok reader
  pub frames : ReadsWithEnds new_reader octets (moments ++ read frame (Some event) ∷ []) reader
  pub partly : IsReadPartly octets moments
  pub writing : IsWriting output place.sending
  pub heard_is : place.heard ≡ events_of moments
  pub served : IsServedBeside fed start place.side
      (course_of moments place.sending.inputs place.waiting [] place.standing)
  pub rest : IsAtRest [] place.sending.inputs place.waiting place.standing

-- ---- steps between two frames

-- so much is served, whatever was answered since the last frame
pub record IsServedAt (fed : List ℕ) (start : Start) (moments : List Moment) (inputs : List Input)
    (side : FeederState) (waiting : List Waiting) (owed : List Request) (port : PortView)
    (calls : List Served) (readings : List ℕ) : Type 0 where
  pub round : List Deed
  pub no_turns : (stream : ℕ) → turns_on stream round ≡ 0
  pub served : IsServedBeside fed start side
      (course_of moments inputs waiting owed (standing_of port calls readings round))

-- and so much, where a step failed for want of memory
pub record IsServedPartly (fed : List ℕ) (start : Start) (moments : List Moment)
    (inputs : List Input) (side : FeederState) (port : PortView) (readings : List ℕ) : Type 0 where
  pub waiting : List Waiting
  pub owed : List Request
  pub calls : List Served
  pub at : IsServedAt fed start moments inputs side waiting owed port calls readings

-- a call of mode STREAM has taken no turn since the last frame
abbrev pub NotYet : List Deed → Served → Type 0
NotYet round served =
    served.call.plan.mode ≡ modes.Stream → turns_on served.stream round ≡ 0

-- Nothing is owed any more, and the calls take their turns: these have had theirs, and those behind them haven't.
pub record IsTurning (fed : List ℕ) (start : Start) (output : Output) (octets : List ℕ)
    (done due : List Served) (recv : State) (sending : Progress) (side : FeederState)
    (heard : List RecvEvent) (waiting : List Waiting) (port : PortView) (readings : List ℕ)
    : Type 0 where
  pub round : List Deed
  pub stands : Stands fed start output octets (place_of recv sending side heard waiting []
      (standing_of port (done ++ due) readings round))
  pub behind : AreBehind sending.inputs waiting
  pub turned : AllByRecursion (HadTurns round sending.inputs) done
  pub not_yet : AllByRecursion (NotYet round) due

-- at rest, whatever was done since the last frame
pub record HasRested (fed : List ℕ) (start : Start) (output : Output) (octets : List ℕ)
    (recv : State) (sending : Progress) (side : FeederState) (heard : List RecvEvent)
    (waiting : List Waiting) (port : PortView) (calls : List Served) (readings : List ℕ)
    : Type 0 where
  pub round : List Deed
  pub rests : Rests fed start output octets
      (place_of recv sending side heard waiting [] (standing_of port calls readings round))

-- ---- ends

-- the sending half is open, and was given these inputs
pub record IsOpen (inputs : List Input) (at : Progress) : Type 0 where
  pub condition_is : at.condition ≡ condition.Open
  pub inputs_are : at.inputs ≡ inputs

-- What these inputs cause has gone out, and the end of the connection is still to be written,
abbrev pub CanClose : List Input → Output → Progress → Type 0
CanClose inputs output at = IsOpen inputs at × Wrote (octets_of (frames_of inputs)) output at.output

-- or was written with this code.
abbrev pub HasClosed : List Input → ℕ → Output → Progress → Type 0
HasClosed inputs code output at =
    (at.condition ≡ condition.Finished) × (at.inputs ≡ inputs)
    × Wrote (octets_of (frames_until inputs code)) output at.output

-- memory ran out, here or in the sending half, which may have been given one thing more that was lost
abbrev pub HasStarved : List Input → Output → Progress → Type 0
HasStarved inputs output at =
    (IsOpen inputs at ⊎ ((at.condition ≡ condition.NoMemory) × IsOneMore inputs at))
    × Wrote (octets_of (frames_of inputs)) output at.output

-- How the sending half is left. Where the peer's error isn't one of its windows it may be told later.
abbrev pub IsLeft : How → List ℕ → List Moment → List Input → Output → Progress → Type 0
IsLeft (hows.Protocol code) octets moments inputs output at =
    (CanClose inputs output at
    × ((others : List Input) → IsConnectionError octets moments others code))
    ⊎ HasClosed inputs code output at
IsLeft hows.WriteFault octets moments inputs output at =
    (at.condition ≡ condition.WriteFault) × (at.inputs ≡ inputs)
    × IsBroken octets moments inputs output at.output
IsLeft hows.NoMemory octets moments inputs output at = HasStarved inputs output at
IsLeft _ octets moments inputs output at = CanClose inputs output at

-- what holds where a session goes on no more
pub record HasEnded (how : How) (fed : List ℕ) (start : Start) (octets : List ℕ) (output : Output)
    (sending : Progress) (side : FeederState) (port : PortView) (readings : List ℕ) : Type 0 where
  pub moments : List Moment
  pub inputs : List Input
  pub waiting : List Waiting
  pub owed : List Request
  pub calls : List Served
  pub round : List Deed
  pub partly : IsReadPartly octets moments
  pub made : IsMadeOf how octets moments inputs
  pub served : IsServedBeside fed start side
      (course_of moments inputs waiting owed (standing_of port calls readings round))
  pub settled : IsSettled how owed inputs waiting (standing_of port calls readings round)
  pub accepted : AreAccepted first_line inputs
  pub left : IsLeft how octets moments inputs output sending

-- ---- with the source

-- a session between two frames
pub record IsServing (fed : List ℕ) (schema : List SchemaNode) (before : Outside)
    (source : Source) (count : ℕ) (place : Place) : Type 0 where
  pub octets : List ℕ
  pub all : Read octets before.input source
  pub counted : count ≡ length octets
  pub rests : Rests fed (start_of schema before) before.output octets place

-- a session that goes on no more
pub record HasStopped (how : How) (fed : List ℕ) (schema : List SchemaNode) (before : Outside)
    (source : Source) (sending : Progress) (side : FeederState) (port : PortView)
    (readings : List ℕ) : Type 0 where
  pub octets : List ℕ
  pub given : IsGiven how octets before.input source
  pub ended : HasEnded how fed (start_of schema before) octets before.output sending side port
      readings

-- a session whose sending half was ended
pub record HasFinished (how : How) (fed : List ℕ) (schema : List SchemaNode) (before : Outside)
    (source : Source) (sending : Progress) (side : FeederState) (port : PortView)
    (readings : List ℕ) : Type 0 where
  pub octets : List ℕ
  pub moments : List Moment
  pub inputs : List Input
  pub waiting : List Waiting
  pub owed : List Request
  pub calls : List Served
  pub round : List Deed
  pub given : IsGivenBeside fed how octets before.input source
  pub partly : IsReadPartly octets moments
  pub made : IsMadeOf how octets moments inputs
  pub accepted : AreAccepted first_line inputs
  pub served : IsServedBeside fed (start_of schema before) side
      (course_of moments inputs waiting owed (standing_of port calls readings round))
  pub settled : IsSettled how owed inputs waiting (standing_of port calls readings round)
  pub written : IsWritten how octets moments inputs before.output sending.output
  pub lost : IsLostLast how inputs sending.inputs
  pub closed : IsClosed sending.condition

-- a session that has read nothing yet, with whichever feeders there will be
abbrev pub Begins : List SchemaNode → Outside → Source → ℕ → State → Progress → PortView → List ℕ
    → Type 0
Begins schema before source count recv at port readings =
    (fed : List ℕ) (side : FeederState) → side.started ≡ []
    → ((stream : ℕ) → spoken stream side.own ≡ [])
    → IsServing fed schema before source count
    (place_of recv at side [] [] [] (standing_of port [] readings []))
