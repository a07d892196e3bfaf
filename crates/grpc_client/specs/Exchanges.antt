-- What may happen on a connection, one step after the other: a whole frame comes, or one is sent.
use Rattle.std.specs.Prelude.{◌≡◌, ◌⊎◌, ℕ, ◌+◌, ◌-◌, ◌<◌, ◌≤◌, List, [], ◌∷◌, ◌++◌, Bool, false, true, ◌==◌, length, take, Option, Some, None, Result, Ok, Err, if◌then◌else◌}
use Rattle.h2_frame.specs.Frames.{Frame, Spells, frame_of}
use Rattle.h2_frame.specs.Kinds.{data_kind, end_stream_flag}
use Rattle.h2_frame.specs.ErrorCodes.{flow_control_error}
use Rattle.h2_events.specs.Events.{largest_frame}
use Rattle.h2_windows.specs.Windows.{room}
use Rattle.h2_windows.specs.Sending.{largest_payload}
use Rattle.h2_windows.specs.Written.{octets_of}
use Rattle.h2_responses.specs.declared.event.ServerEvent.{ServerEvent}
use Rattle.h2_responses.specs.declared.server.Server.{Server}
use Rattle.h2_responses.specs.Meanings.{Means, IsFault}
use Rattle.grpc_client.specs.declared.connection.Connection.{Connection}
use Rattle.grpc_client.specs.declared.reply.Reply.{Reply}
use Rattle.grpc_client.specs.Connections.{own_window, overflows, with_event, spent, IsPaced}
use Rattle.grpc_client.specs.Replies.{reply_if, frames_of}

-- ---- a frame that comes

-- A window that would be larger than it may be is a connection error (RFC 9113 section 6.9.1), also that of the stream.
abbrev pub after_event : Option ServerEvent → Connection → Result Connection ℕ
after_event None connection = Ok connection
after_event (Some event) connection =
    if overflows event connection then Err flow_control_error else Ok (with_event event connection)

-- What a frame means, what it changes, and what it is answered.
pub record Hears (old : Connection) (frame : Frame) (reply : Reply) (new : Connection)
    : Type 0 where
  pub event : Option ServerEvent
  pub server : Server
  pub means : Means old.server frame (Ok (record { event = event; server = server }))
  pub changes : after_event event (record old { server = server }) ≡ Ok new
  pub answers : reply ≡ reply_if event

-- an event takes a window above the largest one
pub record Overflows (old : Connection) (frame : Frame) (code : ℕ) : Type 0 where
  pub event : Option ServerEvent
  pub server : Server
  pub means : Means old.server frame (Ok (record { event = event; server = server }))
  pub changes : after_event event (record old { server = server }) ≡ Err code

-- the frame is a connection error with this code
abbrev pub Breaks : Connection → Frame → ℕ → Type 0
Breaks old frame code = IsFault old.server frame code ⊎ Overflows old frame code

-- ---- steps

-- a connection, and the frames that are to be sent next
pub record Exchange : Type 0 where
  pub connection : Connection
  pub owed : List Frame

-- nothing is to be sent but octets of the call
abbrev pub at : Connection → Exchange
at connection = record { connection = connection; owed = [] }

abbrev pub owing : List Frame → Connection → Exchange
owing frames connection = record { connection = connection; owed = frames }

-- These octets came, which are this frame. Or a frame was sent.
pub data Done : Type 0 where
  Got : List ℕ → Frame → Done
  Sent : Frame → Done

-- so many octets fewer may still come
abbrev pub counted : List ℕ → Connection → Connection
counted octets connection = record connection { left = connection.left - length octets }

-- A frame comes. All that was owed was sent before, and octets of the call wait only where a window is 0 or below.
pub record Gets (octets : List ℕ) (frame : Frame) (old new : Exchange) : Type 0 where
  pub answered : old.owed ≡ []
  pub paced : IsPaced old.connection
  pub spells : Spells octets frame
  pub allowed : frame.head.length ≤ largest_frame
  pub reply : Reply
  pub hears : Hears (counted octets old.connection) frame reply new.connection
  pub owes : new.owed ≡ frames_of reply

-- the first of the frames that are owed is sent
pub record SendsOwed (frame : Frame) (old new : Exchange) : Type 0 where
  pub first : old.owed ≡ frame ∷ new.owed
  pub same : new.connection ≡ old.connection

-- So many octets of the call as a DATA frame, with END_STREAM where they are the last (RFC 9113 section 6.1).
abbrev pub data_frame : ℕ → Connection → Frame
data_frame count connection =
    frame_of (record {
      length = count;
      kind = data_kind;
      flags = if count == length connection.unsent then end_stream_flag else 0;
      stream = connection.server.last;
    })
    (take count connection.unsent)

-- DATA is sent, of as many octets as both windows let through at most (RFC 9113 sections 5.2 and 6.9). Nothing is owed then, so
-- that it comes behind the HEADERS.
pub record SendsData (frame : Frame) (old new : Exchange) : Type 0 where
  pub answered : old.owed ≡ []
  pub count : ℕ
  pub some : 0 < count
  pub there : count ≤ length old.connection.unsent
  pub small : count ≤ largest_payload
  pub own : count ≤ room (own_window old.connection)
  pub connection : count ≤ room old.connection.window
  pub frame_is : frame ≡ data_frame count old.connection
  pub new_is : new ≡ at (spent count old.connection)

abbrev pub Leads : Exchange → Done → Exchange → Type 0
Leads old (Got octets frame) new = Gets octets frame old new
Leads old (Sent frame) new = SendsOwed frame old new ⊎ SendsData frame old new

-- one step after the other
abbrev pub Runs : Exchange → List Done → Exchange → Type 0
Runs first [] last = first ≡ last
Runs first (done ∷ order) last =
    (next : Exchange) × Leads first done next × Runs next order last

-- ---- what is read off an order

-- the octets of the frames that came
abbrev pub received : List Done → List ℕ
received [] = []
received (Got octets frame ∷ order) = octets ++ received order
received (Sent frame ∷ order) = received order

-- the frames that were sent
abbrev pub sent : List Done → List Frame
sent [] = []
sent (Got octets frame ∷ order) = sent order
sent (Sent frame ∷ order) = frame ∷ sent order

-- Some order of steps leads from one to the other. These octets come in it, and these are sent.
pub record Did (first : Exchange) (came went : List ℕ) (last : Exchange) : Type 0 where
  pub order : List Done
  pub runs : Runs first order last
  pub came_is : received order ≡ came
  pub went_is : octets_of (sent order) ≡ went
