-- What a whole header block means (RFC 9113 sections 5.1.2, 8.1 and 8.1.1).
use Rattle.std.specs.Prelude.{◌≡◌, ◌≢◌, ℕ, List, Bool, not, nat_le, length, Option, Some, None, Result, Ok, Err, if◌then◌else◌}
use Rattle.hpack_block.specs.declared.header.Header.{Header}
use Rattle.hpack_block.specs.declared.header.BlockFault.{BlockFault}
use Rattle.hpack_block.specs.declared.header.BlockFault.TheVariants as unread
use Rattle.hpack_block.specs.Answers.{Answers}
use Rattle.h2_events.specs.declared.event.RecvEvent.TheVariants as event
use Rattle.h2_streams.specs.declared.streams.StreamState.{StreamState}
use Rattle.h2_streams.specs.declared.streams.StreamState.TheVariants as state
use Rattle.h2_streams.specs.declared.peer.HeaderBlock.{HeaderBlock}
use Rattle.h2_streams.specs.declared.peer.Peer.{Peer}
use Rattle.h2_frame.specs.ErrorCodes.{protocol_error, stream_closed, refused_stream, compression_error}
use Rattle.h2_streams.specs.Codes.{most_streams}
use Rattle.h2_streams.specs.States.{is_idle, state_among, open_stream, opened_and_reset, peer_ends}
use Rattle.h2_streams.specs.Outcomes.{Outcome, nothing, gives, stream_fault}
use Rattle.h2_streams.specs.Requests.{is_well_formed}

abbrev pub refused : ℕ → ℕ → Peer → Outcome
refused stream code peer = gives (event.StreamFault stream code) (opened_and_reset stream peer)

-- A block on an idle stream opens it. There is no list where it is too long.
abbrev pub request : ℕ → Bool → Option (List Header) → Peer → Outcome
request stream ends None peer = gives (event.TooLong stream) (open_stream stream ends peer)
request stream ends (Some headers) peer =
    if is_well_formed headers
    then gives (event.Call stream headers ends) (open_stream stream ends peer)
    else refused stream protocol_error peer

-- A block on a stream that the peer opened: trailers, which end it, or a fault. What trailers hold isn't judged.
abbrev pub later_block : ℕ → Bool → StreamState → Peer → Outcome
later_block stream ends state.Closed peer = nothing peer
later_block stream ends state.HalfClosedRemote peer = stream_fault stream stream_closed peer
later_block stream ends _ peer =
    if ends then gives (event.Trailers stream) (peer_ends stream peer)
    else stream_fault stream protocol_error peer

abbrev pub block_on : ℕ → Bool → Option (List Header) → Peer → Outcome
block_on stream ends list peer =
    if not (is_idle peer stream) then later_block stream ends (state_among stream peer.streams) peer
    else if nat_le most_streams (length peer.streams) then refused stream refused_stream peer
    else request stream ends list peer

-- by what the decoder reads in it
abbrev pub headers_mean : ℕ → Bool → Result (List Header) BlockFault → Peer → Outcome
headers_mean stream ends (Ok headers) peer = block_on stream ends (Some headers) peer
headers_mean stream ends (Err unread.TooLong) peer = block_on stream ends None peer
headers_mean stream ends (Err _) peer = Err compression_error

-- The block is read with the connection's table, which every block changes, also one that is then dropped.
pub record BlockMeans (block : HeaderBlock) (peer : Peer) (outcome : Outcome) : Type 0 where
  pub list : Result (List Header) BlockFault
  pub peer_then : Peer
  pub read : Answers peer.decoder block.octets list peer_then.decoder
  pub in_memory : list ≢ Err unread.NoMemory
  pub peer_then_is : peer_then ≡ record peer { decoder = peer_then.decoder; block = None }
  pub outcome_is : outcome ≡ headers_mean block.stream block.ends list peer_then
