-- Peers, frames and headers that worked examples speak of.
use Rattle.std.specs.Prelude.{ℕ, List, [], ◌∷◌, Bool, true, codes, length, replicate, Some, None, Ok}
use Rattle.hpack_block.specs.declared.header.Header.{Header}
use Rattle.hpack_block.specs.StaticTable.{pair}
use Rattle.hpack_block.specs.Tables.{empty_table}
use Rattle.h2_frame.specs.Frames.{Frame, frame_of}
use Rattle.h2_streams.specs.declared.streams.StreamState.TheVariants as state
use Rattle.h2_streams.specs.declared.peer.HeaderBlock.{HeaderBlock}
use Rattle.h2_streams.specs.declared.peer.Peer.{Peer}

abbrev pub frame : ℕ → ℕ → ℕ → List ℕ → Frame
frame kind flags stream payload =
    frame_of
    (record { length = length payload; kind = kind; flags = flags; stream = stream }) payload

-- its SETTINGS were read, and nothing else
abbrev pub greeted : Peer
greeted =
    record {
      greeted = true;
      window = 65535;
      decoder = Ok empty_table;
      highest = 0;
      streams = [];
      block = None;
    }

-- stream 3 is open, 5 is ended by the peer and 7 by this side, 9 is closed, and 1 was skipped
abbrev pub busy : Peer
busy =
    record greeted {
      highest = 9;
      streams =
          record { id = 3; state = state.Open } ∷ record { id = 5; state = state.HalfClosedRemote }
          ∷ record { id = 7; state = state.HalfClosedLocal } ∷ [];
    }

-- a block of stream 11 with END_STREAM, in so many octets
abbrev pub block_with : List ℕ → HeaderBlock
block_with octets = record { stream = 11; ends = true; octets = octets }

-- one octet of it was read
abbrev pub in_block : Peer
in_block = record busy { block = Some (block_with (0x82 ∷ [])) }

-- as many streams are open as may be
abbrev pub full : Peer
full = record busy { streams = replicate 32 (record { id = 3; state = state.Open }) }

-- a whole block of this stream, whatever its octets
abbrev pub block_of : ℕ → Bool → HeaderBlock
block_of stream ends = record { stream = stream; ends = ends; octets = [] }

abbrev pub post : List Header
post =
    pair (codes ":method") (codes "POST") ∷ pair (codes ":scheme") (codes "http")
    ∷ pair (codes ":path") (codes "/") ∷ pair (codes "te") (codes "trailers") ∷ []
