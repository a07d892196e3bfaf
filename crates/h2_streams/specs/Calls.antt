-- What a server makes of a connection: the frames that it reads and the streams that it ends, in one order.
use Rattle.std.specs.Prelude.{◌≡◌, ℕ, List, [], ◌∷◌, false, ⊤, length, Option, Some, None, Ok, Err}
use Rattle.hpack_block.specs.Tables.{empty_table}
use Rattle.h2_frame.specs.Frames.{Frame}
use Rattle.h2_events.specs.declared.event.RecvEvent.{RecvEvent}
use Rattle.h2_events.specs.Items.{Read, Event, Ended}
use Rattle.h2_streams.specs.declared.peer.HeaderBlock.{HeaderBlock}
use Rattle.h2_streams.specs.declared.peer.Peer.{Peer}
use Rattle.h2_streams.specs.States.{this_side_ends}
use Rattle.h2_streams.specs.Meanings.{Means}

-- A peer of which nothing was read. Its settings are those at first (RFC 9113 section 6.5.2).
abbrev pub new_peer : Peer
new_peer =
    record {
      greeted = false;
      window = 65535;
      decoder = Ok empty_table;
      highest = 0;
      streams = [];
      block = None;
    }

-- the octets of a header block whose end has not come
abbrev pub block_length : Option HeaderBlock → ℕ
block_length None = 0
block_length (Some block) = length block.octets

-- A frame is read, and gives this event, if any. Or this side has ended a stream.
pub data Moment : Type 0 where
  read : Frame → Option RecvEvent → Moment
  ended : ℕ → Moment

abbrev pub Leads : Peer → Moment → Peer → Type 0
Leads peer (read frame event) next = Means peer frame (Ok (record { event = event; peer = next }))
Leads peer (ended stream) next = this_side_ends stream peer ≡ next

-- one moment after the other, of which none is a connection error
abbrev pub Calls : Peer → List Moment → Peer → Type 0
Calls start [] last = start ≡ last
Calls start (moment ∷ moments) last =
    (next : Peer) × Leads start moment next × Calls next moments last

-- the frame is a connection error with this code (section 5.4.1)
abbrev pub IsFault : Peer → Frame → ℕ → Type 0
IsFault peer frame code = Means peer frame (Err code)

-- ---- what is read off moments

abbrev pub frames_of : List Moment → List Frame
frames_of [] = []
frames_of (read frame event ∷ moments) = frame ∷ frames_of moments
frames_of (ended stream ∷ moments) = frames_of moments

abbrev pub events_of : List Moment → List RecvEvent
events_of [] = []
events_of (read frame (Some event) ∷ moments) = event ∷ events_of moments
events_of (read frame None ∷ moments) = events_of moments
events_of (ended stream ∷ moments) = events_of moments

-- the events and the ends, in one order
abbrev pub reads_of : List Moment → List Read
reads_of [] = []
reads_of (read frame (Some event) ∷ moments) = Event event ∷ reads_of moments
reads_of (read frame None ∷ moments) = reads_of moments
reads_of (ended stream ∷ moments) = Ended stream ∷ reads_of moments

-- What comes from outside: the frames without what they give, and the ends.
pub data Cause : Type 0 where
  came : Frame → Cause
  ends : ℕ → Cause

abbrev pub causes_of : List Moment → List Cause
causes_of [] = []
causes_of (read frame event ∷ moments) = came frame ∷ causes_of moments
causes_of (ended stream ∷ moments) = ends stream ∷ causes_of moments

-- frames alone, and no end of a stream by this side
abbrev pub AreRead : List Moment → Type 0
AreRead [] = ⊤
AreRead (read frame event ∷ moments) = AreRead moments
AreRead (ended stream ∷ moments) = ⊥
