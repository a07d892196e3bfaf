-- A receiver: the octets of a connection as they come, in any pieces.
use Rattle.std.specs.Prelude.{◌≡◌, ℕ, ◌+◌, ◌-◌, min, List, [], ◌∷◌, ◌++◌, ◌⊎◌, length, nat_lt, if◌then◌else◌, take, drop, codes, true, Option, Some, None, Result, Ok, Err}
use Rattle.h2_frame.specs.Frames.{Frame, BeginsWith, LeadingFrames, IsPart, IsTooLong, stated_length}
use Rattle.h2_events.specs.declared.event.RecvEvent.{RecvEvent}
use Rattle.h2_events.specs.declared.event.RecvFault.{RecvFault}
use Rattle.h2_events.specs.declared.event.RecvFault.TheVariants as fault
use Rattle.h2_streams.specs.declared.peer.Peer.{Peer}
use Rattle.h2_frame.specs.ErrorCodes.{protocol_error, frame_size_error}
use Rattle.h2_events.specs.Events.{largest_frame}
use Rattle.h2_streams.specs.Calls.{Moment, read, ended, Calls, AreRead, IsFault, frames_of, events_of, new_peer, block_length}
use Rattle.h2_streams.specs.States.{this_side_ends}
use Rattle.h2_recv.specs.declared.reader.Reader.{Reader}

-- the octets before a client's frames (RFC 9113 section 3.4)
abbrev pub preface : List ℕ
preface = codes "PRI * HTTP/2.0" ++ 13 ∷ 10 ∷ 13 ∷ 10 ∷ codes "SM" ++ 13 ∷ 10 ∷ 13 ∷ 10 ∷ []

-- a receiver to which nothing came
abbrev pub new_reader : Reader
new_reader = record { begun = 0; rest = []; peer = new_peer }

-- A receiver goes on, or it has the fault that it ended with.
abbrev pub State : Type 0
State = Result Reader RecvFault

abbrev pub state_of : Option RecvFault → Reader → State
state_of None reader = Ok reader
state_of (Some why) reader = Err why

-- how many octets of a piece are the preface's, of which so many came before
abbrev pub share : ℕ → List ℕ → ℕ
share begun piece = min (length preface - begun) (length piece)

abbrev pub GoesOn : ℕ → List ℕ → Type 0
GoesOn begun piece = take (share begun piece) piece ≡ take (share begun piece) (drop begun preface)

-- A piece goes on with the preface, of which `now` octets came by then, and behind it with octets of frames.
pub record Opens (begun : ℕ) (piece : List ℕ) (now : ℕ) (behind : List ℕ) : Type 0 where
  pub goes_on : GoesOn begun piece
  pub now_is : now ≡ begun + share begun piece
  pub behind_is : behind ≡ drop (share begun piece) piece

-- With a piece a receiver comes as far as `after`: these frames stood before it, and led to a peer.
pub record Reaches (old : Reader) (piece : List ℕ) (moments : List Moment) (after : List ℕ)
    (begun : ℕ) (peer : Peer) : Type 0 where
  pub behind : List ℕ
  pub opened : Opens old.begun piece begun behind
  pub leading : LeadingFrames largest_frame (old.rest ++ behind) (frames_of moments) after
  pub calls : Calls old.peer moments peer
  pub read : AreRead moments

-- all of a piece is read, up to the beginning of a frame
pub record Reads (old : Reader) (piece : List ℕ) (moments : List Moment)
    (new : Reader) : Type 0 where
  pub reaches : Reaches old piece moments new.rest new.begun new.peer
  pub part : IsPart largest_frame new.rest

-- what stands first is too long for a frame, or a frame that is a connection fault
abbrev pub FaultStands : Peer → List ℕ → ℕ → Type 0
FaultStands peer octets code =
    (IsTooLong largest_frame octets × (code ≡ frame_size_error))
    ⊎ ((frame : Frame) × (later : List ℕ) × BeginsWith largest_frame octets frame later
    × IsFault peer frame code)

-- a piece comes as far as a connection fault
pub record Faults (old : Reader) (piece : List ℕ) (moments : List Moment) (code : ℕ) : Type 0 where
  pub after : List ℕ
  pub begun : ℕ
  pub peer : Peer
  pub reaches : Reaches old piece moments after begun peer
  pub stands : FaultStands peer after code

-- a piece in which the preface is another one
pub record Astray (old : Reader) (piece : List ℕ) (moments : List Moment) (code : ℕ) : Type 0 where
  pub departs : GoesOn old.begun piece → ⊥
  pub none : moments ≡ []
  pub code_is : code ≡ protocol_error

-- a piece is read as far as somewhere
pub record Stops (old : Reader) (piece : List ℕ) (moments : List Moment) : Type 0 where
  pub after : List ℕ
  pub begun : ℕ
  pub peer : Peer
  pub reaches : Reaches old piece moments after begun peer

-- ---- ends of streams by this side among the frames

-- With octets a receiver comes as far as `after`. Frames stood before it, and this side ended streams between them.
pub record ReachesWithEnds (old : Reader) (octets : List ℕ) (moments : List Moment) (after : List ℕ)
    (begun : ℕ) (peer : Peer) : Type 0 where
  pub behind : List ℕ
  pub opened : Opens old.begun octets begun behind
  pub leading : LeadingFrames largest_frame (old.rest ++ behind) (frames_of moments) after
  pub calls : Calls old.peer moments peer

pub record ReadsWithEnds (old : Reader) (octets : List ℕ) (moments : List Moment) (new : Reader)
    : Type 0 where
  pub reaches : ReachesWithEnds old octets moments new.rest new.begun new.peer
  pub part : IsPart largest_frame new.rest

pub record FaultsWithEnds (old : Reader) (octets : List ℕ) (moments : List Moment) (code : ℕ)
    : Type 0 where
  pub after : List ℕ
  pub begun : ℕ
  pub peer : Peer
  pub reaches : ReachesWithEnds old octets moments after begun peer
  pub stands : FaultStands peer after code

-- a stream that this side ends, and how many frames stand before that
pub record EndAt : Type 0 where
  pub frames : ℕ
  pub stream : ℕ

-- the ends among moments behind so many frames
abbrev pub ends_from : ℕ → List Moment → List EndAt
ends_from frames [] = []
ends_from frames (read frame event ∷ moments) = ends_from (frames + 1) moments
ends_from frames (ended stream ∷ moments) =
    record { frames = frames; stream = stream } ∷ ends_from frames moments

abbrev pub ends_of : List Moment → List EndAt
ends_of moments = ends_from 0 moments

-- this side ends a stream
abbrev pub reader_ended : ℕ → Reader → Reader
reader_ended stream reader = record reader { peer = this_side_ends stream reader.peer }

-- ---- the calls

-- What a receiver makes of a piece. What it gives stands behind the events before.
abbrev pub Fed : State → List ℕ → List RecvEvent → Result Unit RecvFault → State → List RecvEvent
    → Type 0
Fed (Err why) piece before result new events =
    (result ≡ Err why) × (new ≡ Err why) × (events ≡ before)
Fed (Ok old) piece before (Ok done) new events =
    (moments : List Moment) × (now : Reader) × Reads old piece moments now × (new ≡ Ok now)
    × (events ≡ before ++ events_of moments)
Fed (Ok old) piece before (Err (fault.Protocol code)) new events =
    (moments : List Moment) × (Faults old piece moments code ⊎ Astray old piece moments code)
    × (new ≡ Err (fault.Protocol code)) × (events ≡ before ++ events_of moments)
Fed (Ok old) piece before (Err fault.NoMemory) new events =
    (moments : List Moment) × Stops old piece moments × (new ≡ Err fault.NoMemory)
    × (events ≡ before ++ events_of moments)

abbrev pub state_ended : ℕ → State → State
state_ended stream (Ok reader) = Ok (reader_ended stream reader)
state_ended stream (Err why) = Err why

-- The octets so far end where a frame ends: some frame was read, and nothing stands behind it.
abbrev pub EndsFrame : State → Type 0
EndsFrame (Ok reader) = (reader.peer.greeted ≡ true) × (reader.rest ≡ [])
EndsFrame (Err why) = ⊥

-- ---- what a receiver wants

-- where the head ends that begins so, or the payload behind the whole head
abbrev pub next_end : List ℕ → ℕ
next_end octets = if nat_lt (length octets) 9 then 9 else 9 + stated_length octets

-- How many octets are missing to the end of the preface, and then of a head or of a frame.
abbrev pub missing : Reader → ℕ
missing reader =
    if nat_lt reader.begun (length preface) then length preface - reader.begun
    else next_end reader.rest - length reader.rest

-- After a fault no octet is read, and one is as good as another.
abbrev pub wanted : State → ℕ
wanted (Ok reader) = missing reader
wanted (Err why) = 1

-- ---- what a receiver keeps

abbrev pub reader_held : Reader → ℕ
reader_held reader = length reader.rest + block_length reader.peer.block

-- The octets of frames that are kept: those of a frame that isn't whole, and those of a header block.
abbrev pub held : State → ℕ
held (Ok reader) = reader_held reader
held (Err why) = 0

-- the most that there can be: a frame that lacks an octet, and the largest header block
abbrev pub most_held : ℕ
most_held = 81928
