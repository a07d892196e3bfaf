-- What holds of every frame's outcome.
use Rattle.std.specs.Prelude.{◌≡◌, ◌≢◌, ℕ, ◌<◌, ◌≤◌, List, [], ◌∷◌, length, ⊤, Option, Some, None, Ok, Err}
use Rattle.h2_frame.specs.Frames.{Frame, Fits}
use Rattle.h2_events.specs.declared.event.RecvEvent.{RecvEvent}
use Rattle.h2_events.specs.Events.{highest_with, largest_window, largest_frame, IsClientStream, IsSound}
use Rattle.h2_streams.specs.declared.streams.StreamState.TheVariants as state
use Rattle.h2_streams.specs.declared.streams.Stream.{Stream}
use Rattle.h2_streams.specs.declared.peer.HeaderBlock.{HeaderBlock}
use Rattle.h2_streams.specs.declared.peer.Peer.{Peer}
use Rattle.h2_streams.specs.Codes.{most_streams}
use Rattle.h2_streams.specs.States.{state_among}
use Rattle.h2_streams.specs.Outcomes.{Outcome}

-- the highest stream that the peer has opened, as the event tells it
abbrev pub highest_after : ℕ → Option RecvEvent → ℕ
highest_after highest None = highest
highest_after highest (Some event) = highest_with highest event

abbrev pub TellsHighest : Peer → Outcome → Type 0
TellsHighest peer (Ok told) = told.peer.highest ≡ highest_after peer.highest told.event
TellsHighest peer (Err code) = ⊤

-- The states of all streams but this one are as before, closed and idle ones alike counting as closed.
abbrev pub KeepsOthers : ℕ → Peer → Outcome → Type 0
KeepsOthers stream peer (Ok told) =
    (other : ℕ) → other ≢ stream
    → state_among other told.peer.streams ≡ state_among other peer.streams
KeepsOthers stream peer (Err code) = ⊤

-- ---- events that frames can mean

abbrev pub HasClientStream : Option HeaderBlock → Type 0
HasClientStream None = ⊤
HasClientStream (Some block) = IsClientStream block.stream

-- Streams above a number and up to another, by rising number, none of which is closed.
abbrev pub AreRising : ℕ → ℕ → List Stream → Type 0
AreRising below highest [] = ⊤
AreRising below highest (stream ∷ streams) =
    (below < stream.id) × (stream.id ≤ highest) × (stream.state ≢ state.Closed)
    × AreRising stream.id highest streams

-- The streams that are kept: no two have one number, and they are as many as this side takes at most.
pub record AreKept (highest : ℕ) (streams : List Stream) : Type 0 where
  pub rising : AreRising 0 highest streams
  pub few : length streams ≤ most_streams

-- The peer's initial window is one that it may state, a header block is on one of its streams, and no stream is kept twice.
pub record IsSoundPeer (peer : Peer) : Type 0 where
  pub window : peer.window ≤ largest_window
  pub block : HasClientStream peer.block
  pub streams : AreKept peer.highest peer.streams

-- a frame of octets, no longer than this side takes
pub record IsReadable (frame : Frame) : Type 0 where
  pub fits : Fits frame
  pub allowed : frame.head.length ≤ largest_frame

abbrev pub IsSoundIfAny : Option RecvEvent → Type 0
IsSoundIfAny None = ⊤
IsSoundIfAny (Some event) = IsSound event

abbrev pub GivesSound : Outcome → Type 0
GivesSound (Ok told) = IsSoundIfAny told.event × IsSoundPeer told.peer
GivesSound (Err code) = ⊤
