-- The states of a connection's streams (RFC 9113 section 5.1).
use Rattle.std.specs.Prelude.{ℕ, ◌%◌, List, [], ◌∷◌, ◌++◌, Bool, not, ◌||◌, ◌==◌, nat_lt, max, map, filter, if◌then◌else◌}
use Rattle.h2_streams.specs.declared.streams.StreamState.{StreamState}
use Rattle.h2_streams.specs.declared.streams.StreamState.TheVariants as state
use Rattle.h2_streams.specs.declared.streams.Stream.{Stream}
use Rattle.h2_streams.specs.declared.peer.Peer.{Peer}

-- the state of a stream that is not idle: it is closed where it is none of these
abbrev pub state_among : ℕ → List Stream → StreamState
state_among id [] = state.Closed
state_among id (stream ∷ streams) = if stream.id == id then stream.state else state_among id streams

-- The peer opens odd streams by rising number: one above the highest is idle, and one that it skipped is closed. It
-- never opens an even one (section 5.1.1). Stream 0 is the connection, and counts as idle.
abbrev pub is_idle : Peer → ℕ → Bool
is_idle peer id = (id % 2 == 0) || nat_lt peer.highest id

abbrev pub without : ℕ → List Stream → List Stream
without id streams = filter (λ (stream : Stream). not (stream.id == id)) streams

abbrev pub in_state : ℕ → StreamState → Stream → Stream
in_state id now stream = if stream.id == id then record { id = id; state = now } else stream

abbrev pub with_state : ℕ → StreamState → List Stream → List Stream
with_state id now streams = map (in_state id now) streams

-- the peer ends a stream
abbrev pub ended_by_peer : ℕ → StreamState → List Stream → List Stream
ended_by_peer id state.Open streams = with_state id state.HalfClosedRemote streams
ended_by_peer id state.HalfClosedLocal streams = without id streams
ended_by_peer id _ streams = streams

-- this side ends a stream
abbrev pub ended_here : ℕ → StreamState → List Stream → List Stream
ended_here id state.Open streams = with_state id state.HalfClosedLocal streams
ended_here id state.HalfClosedRemote streams = without id streams
ended_here id _ streams = streams

abbrev pub peer_ends : ℕ → Peer → Peer
peer_ends id peer =
    record peer { streams = ended_by_peer id (state_among id peer.streams) peer.streams }

abbrev pub this_side_ends : ℕ → Peer → Peer
this_side_ends id peer =
    record peer { streams = ended_here id (state_among id peer.streams) peer.streams }

-- either side resets a stream
abbrev pub reset : ℕ → Peer → Peer
reset id peer = record peer { streams = without id peer.streams }

abbrev pub state_at_opening : Bool → StreamState
state_at_opening ends = if ends then state.HalfClosedRemote else state.Open

-- HEADERS open a stream, with END_STREAM half
abbrev pub open_stream : ℕ → Bool → Peer → Peer
open_stream id ends peer =
    record peer {
      highest = max peer.highest id;
      streams = peer.streams ++ record { id = id; state = state_at_opening ends } ∷ [];
    }

-- HEADERS open a stream that is reset at once
abbrev pub opened_and_reset : ℕ → Peer → Peer
opened_and_reset id peer = record peer { highest = max peer.highest id }
