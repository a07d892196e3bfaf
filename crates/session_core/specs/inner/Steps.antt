-- What one step of a session does.
use Rattle.std.specs.Prelude.{◌≡◌, ◌⊎◌, ℕ, ◌<◌, List, [], ◌∷◌, ◌++◌, length, Bool, false, ⊤, Option, Some, None, Result, Ok, Err, if◌then◌else◌}
use Rattle.environment.specs.Input.{Input as Source, Read}
use Rattle.h2_frame.specs.Frames.{Frame}
use Rattle.h2_events.specs.declared.event.RecvEvent.{RecvEvent}
use Rattle.h2_events.specs.declared.said.Said.{Said}
use Rattle.h2_events.specs.declared.port.Took.{Took}
use Rattle.h2_events.specs.declared.port.Took.TheVariants as took
use Rattle.h2_events.specs.Items.{is_last}
use Rattle.h2_streams.specs.Calls.{Moment, read, reads_of}
use Rattle.h2_recv.specs.declared.reader.Reader.{Reader}
use Rattle.h2_recv.specs.Receiving.{State, Reads, Faults, Astray, ReadsWithEnds, EndsFrame, new_reader, state_ended}
use Rattle.h2_send.specs.Accepting.{IsAccepted}
use Rattle.h2_send.specs.Inputs.{Input, Speech}
use Rattle.h2_send.specs.Lines.{first_line}
use Rattle.h2_send.specs.Port.{Progress, Takes, line_of}
use Rattle.h2_send.specs.declared.fault.WireFaultOut.{WireFaultOut}
use Rattle.h2_send.specs.declared.fault.WireFaultOut.TheVariants as faults
use Rattle.base_kinds.specs.Schema.{SchemaNode}
use Rattle.grpc_requests.specs.declared.request.Asked.{Asked}
use Rattle.book_port.specs.Ports.{PortView}
use Rattle.session_core.specs.declared.how.How.{How}
use Rattle.session_core.specs.declared.how.How.TheVariants as hows
use Rattle.session_core.specs.declared.incoming.Next.{Next}
use Rattle.session_core.specs.declared.incoming.Next.TheVariants as nexts
use Rattle.session_core.specs.declared.reply.Reply.{Reply}
use Rattle.session_core.specs.declared.reply.Reply.TheVariants as replies
use Rattle.h2_events.specs.declared.said.Said.TheVariants.{Status}
use Rattle.session_core.specs.declared.served.Served.{Served}
use Rattle.session_core.specs.Deeds.{Deed, Doing, Answering, Turning, Service, AreElsewhere, IsAmong, IsAnswer, IsCallTurn, IsHeard, told, told_all}
use Rattle.grpc_requests.specs.declared.request.Asked.TheVariants as asks
use Rattle.grpc_requests.specs.declared.request.Later.{Later}
use Rattle.h2_events.specs.declared.port.Ready.TheVariants.{Free}
use Rattle.h2_send.specs.Offers.{ready_on}
use Rattle.h2_send.specs.Orders.{line_after}
use Rattle.book_port.specs.Follows.{Turn}
use Rattle.stream_workers.specs.Feeders.{Started}
use Rattle.session_core.specs.Reading.{IsGiven, IsMadeOf}
use Rattle.session_core.specs.inner.Feeders.{IsStartedFor, book_of}
use Rattle.session_core.specs.inner.Sending.{Starves}

-- ---- reading

-- what a receiver makes of a piece that is no longer than it wants
abbrev pub Makes : Reader → List ℕ → Next → State → Type 0
Makes old piece (nexts.Event event) recv =
    (frame : Frame) × (now : Reader) × Reads old piece (read frame (Some event) ∷ []) now
    × (recv ≡ Ok now)
Makes old piece nexts.Nothing recv =
    (moments : List Moment) × (now : Reader) × Reads old piece moments now
    × (reads_of moments ≡ []) × (recv ≡ Ok now)
Makes old piece (nexts.Ends (hows.Protocol code)) recv =
    Faults old piece [] code ⊎ Astray old piece [] code
Makes old piece (nexts.Ends hows.NoMemory) recv = ⊤
Makes old piece (nexts.Ends how) recv = ⊥

-- the one event that there is at most
abbrev pub IsNextOf : List RecvEvent → Next → Type 0
IsNextOf events (nexts.Event event) = events ≡ event ∷ []
IsNextOf events nexts.Nothing = events ≡ []
IsNextOf events (nexts.Ends how) = ⊥

-- how the connection ends where the source does
abbrev pub EndsSo : How → State → Type 0
EndsSo hows.Closed recv = EndsFrame recv
EndsSo hows.Cut recv = EndsFrame recv → ⊥
EndsSo _ recv = ⊥

-- so many octets were read, and these frames are made of them
pub record HasRead (start : Source) (octets : List ℕ) (moments : List Moment) (source : Source)
    (recv : State) (count : ℕ) : Type 0 where
  pub all : Read octets start source
  pub counted : count ≡ length octets
  pub reader : Reader
  pub recv_is : recv ≡ Ok reader
  pub frames : ReadsWithEnds new_reader octets moments reader

-- what comes next
abbrev pub Comes : Source → List ℕ → List Moment → Next → Source → State → ℕ → Type 0
Comes start octets moments (nexts.Event event) source recv count =
    (piece : List ℕ) × (frame : Frame)
    × HasRead start (octets ++ piece) (moments ++ read frame (Some event) ∷ []) source recv count
Comes start octets moments nexts.Nothing source recv count =
    (piece : List ℕ) × (more : List Moment) × (reads_of more ≡ [])
    × HasRead start (octets ++ piece) (moments ++ more) source recv count
Comes start octets moments (nexts.Ends hows.WriteFault) source recv count = ⊥
Comes start octets moments (nexts.Ends how) source recv count =
    (piece : List ℕ) × IsGiven how (octets ++ piece) start source
    × ((inputs : List Input) → IsMadeOf how (octets ++ piece) moments inputs)

-- octets were read, no more than are read in all
abbrev pub Advances : Next → ℕ → ℕ → Type 0
Advances (nexts.Ends how) old new = ⊤
Advances _ old new = old < new

-- ---- saying

-- What saying something on a stream does. Where memory is wanting nothing is written: it isn't said, or the sending half is closed.
abbrev pub Speaks : ℕ → Said → Result (Unit {0}) WireFaultOut → Progress → Progress → Type 0
Speaks stream said (Ok tt) found new =
    IsAccepted (Speech stream said) (line_of found)
    × Takes took.Taken (Speech stream said) found new
Speaks stream said (Err faults.WriteFault) found new =
    IsAccepted (Speech stream said) (line_of found)
    × Takes took.WriteFault (Speech stream said) found new
Speaks stream said (Err faults.NoMemory) found new = (new ≡ found) ⊎ Starves found new
Speaks stream said (Err faults.Overflow) found new = ⊥

-- what becomes of it
abbrev pub done_of : Took → Result (Unit {0}) WireFaultOut
done_of took.Taken = Ok tt
done_of took.WriteFault = Err faults.WriteFault
done_of _ = Err faults.NoMemory

-- the receiver is told where this ends the stream
abbrev pub told_of : ℕ → Said → State → State
told_of stream said recv = if is_last said then state_ended stream recv else recv

-- ---- deeds

abbrev pub said_in : Reply → List Said
said_in (replies.Of result) = told result
said_in (replies.Say messages ends) = told_all messages ends
said_in (replies.Http status) = Status status ∷ []
said_in replies.Nothing = []

abbrev pub deed_with : ℕ → Doing → List Input → List ℕ → Option Turn → Bool → List Said → Deed
deed_with stream doing given readings turn failed said = record {
  stream = stream;
  doing = doing;
  given = given;
  readings = readings;
  turn = turn;
  failed = failed;
  said = said;
}

abbrev pub service : PortView → List Served → Service
service port calls = record { port = port; calls = calls }

-- Something that was asked on a stream is answered with this reply, at readings of the clock.
pub record IsReplied (schema : List SchemaNode) (stream : ℕ) (asked : Asked) (reply : Reply)
    (old new : Service) (before after : List ℕ) : Type 0 where
  pub readings : List ℕ
  pub turn : Option Turn
  pub failed : Bool
  pub clock : after ≡ before ++ readings
  pub deed : (given : List Input) → IsAnswer schema asked
      (deed_with stream (Answering asked) given readings turn failed (said_in reply)) old new

-- What was asked is the first message of a call of mode STREAM, which was handed over. Nothing else is done.
pub record IsHandedOver (name : List ℕ) (stream : ℕ) (asked : Asked) (reply : Reply)
    (old new : Service) (before after : List ℕ) (started later : List Started) : Type 0 where
  pub body : List ℕ
  pub asked_is : asked ≡ asks.Subscribe body
  pub nothing : reply ≡ replies.Nothing
  pub same : new ≡ old
  pub unread : after ≡ before
  pub one : Started
  pub more : later ≡ started ++ one ∷ []
  pub for_it : IsStartedFor name stream body (book_of old.port) old.port.seen one

-- it was answered, or handed over
abbrev pub IsRepliedBeside : List ℕ → List SchemaNode → ℕ → Asked → Reply → Service → Service
    → List ℕ → List ℕ → List Started → List Started → Type 0
IsRepliedBeside name schema stream asked reply old new before after started later =
    (IsReplied schema stream asked reply old new before after × (later ≡ started))
    ⊎ IsHandedOver name stream asked reply old new before after started later

-- the call is still served, or isn't
abbrev pub list_of : Option Served → List Served
list_of None = []
list_of (Some served) = served ∷ []

-- A call took a turn, whatever other calls there are, and this is left of it.
pub record IsTurned (schema : List SchemaNode) (served : Served) (reply : Reply)
    (left : Option Served) (old new : PortView) (before after : List ℕ) : Type 0 where
  pub readings : List ℕ
  pub turn : Option Turn
  pub failed : Bool
  pub clock : after ≡ before ++ readings
  pub deed : (others later : List Served) (given : List Input)
      → ready_on served.stream (line_after first_line given).streams ≡ Free
      → IsCallTurn schema
      (deed_with served.stream Turning given readings turn failed (said_in reply))
      (service old (others ++ served ∷ later)) (service new (others ++ list_of left ++ later))

-- What was asked behind the first message of a call is answered, whatever other calls there are, and this is left of the call.
abbrev pub IsLaterDone : Later → Served → Reply → Option Served → Type 0
IsLaterDone what served reply left =
    (others later : List Served) (given : List Input) (port : PortView)
    → IsHeard what
    (deed_with served.stream (Answering (asks.Later what)) given [] None false (said_in reply))
    (service port (others ++ served ∷ later)) (service port (others ++ list_of left ++ later))

-- ---- the calls that are served

-- The one on the stream, if there is one, and those before and behind it.
abbrev pub IsFound : ℕ → List Served → Option Served → List Served → List Served → Type 0
IsFound stream before None after calls =
    AreElsewhere stream before × (after ≡ []) × (calls ≡ before)
IsFound stream before (Some served) after calls = IsAmong stream served before after calls
