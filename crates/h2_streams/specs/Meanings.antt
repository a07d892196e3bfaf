-- What a frame means, where all before it is known: one definition a kind (RFC 9113 section 6). Of each frame the first
-- fault that holds counts.
use Rattle.std.specs.Prelude.{◌≡◌, ◌≢◌, ℕ, ◌+◌, ◌%◌, ◌^◌, List, [], ◌++◌, true, false, not, ◌&&◌, ◌==◌, nat_lt, length, Option, Some, None, Result, Ok, Err, if◌then◌else◌}
use Rattle.h2_frame.specs.declared.frame.Head.{Head}
use Rattle.h2_frame.specs.Frames.{Frame}
use Rattle.h2_events.specs.declared.event.RecvEvent.{RecvEvent}
use Rattle.h2_events.specs.declared.event.RecvEvent.TheVariants as event
use Rattle.h2_events.specs.declared.event.RecvFault.{RecvFault}
use Rattle.h2_events.specs.declared.event.RecvFault.TheVariants as fault
use Rattle.h2_streams.specs.declared.kind.Kind.{Kind}
use Rattle.h2_streams.specs.declared.kind.Kind.TheVariants as kind
use Rattle.h2_streams.specs.declared.streams.StreamState.{StreamState}
use Rattle.h2_streams.specs.declared.streams.StreamState.TheVariants as state
use Rattle.h2_streams.specs.declared.peer.HeaderBlock.{HeaderBlock}
use Rattle.h2_streams.specs.declared.peer.Peer.{Peer}
use Rattle.h2_frame.specs.ErrorCodes.{protocol_error, frame_size_error, stream_closed, enhance_your_calm}
use Rattle.h2_frame.specs.Kinds.{continuation_kind, settings_kind, ack_flag, end_stream_flag, end_headers_flag, priority_flag}
use Rattle.h2_streams.specs.Codes.{has, kind_of, largest_block}
use Rattle.h2_streams.specs.States.{is_idle, state_among, peer_ends, reset}
use Rattle.h2_streams.specs.Outcomes.{Outcome, Reports, Answered, nothing, gives, stream_fault}
use Rattle.h2_streams.specs.declared.settings.Settings.{Settings}
use Rattle.h2_streams.specs.Payloads.{content, number, with_settings}
use Rattle.h2_streams.specs.Blocks.{BlockMeans}

-- what is left to say of a frame: nothing, or what its header block means, which is whole now
pub data Meaning : Type 0 where
  said : Outcome → Meaning
  block_ends : HeaderBlock → Meaning

-- DATA (section 6.1). On a closed stream it counts against the connection's window alone, whoever closed it: 6.1 asks for
-- STREAM_CLOSED there, which would reset a stream that is reset or ended already. On a stream that the peer has ended it is a
-- stream error, whose octets aren't granted again to the connection (6.9): both are this project's profile.
abbrev pub data_on : Head → List ℕ → StreamState → Peer → Outcome
data_on head octets state.Closed peer = gives (event.Piece head.stream [] head.length true) peer
data_on head octets state.HalfClosedRemote peer = stream_fault head.stream stream_closed peer
data_on head octets _ peer =
    gives (event.Piece head.stream octets head.length (has end_stream_flag head.flags))
    (if has end_stream_flag head.flags then peer_ends head.stream peer else peer)

abbrev pub data_with : Head → Result (List ℕ) ℕ → Peer → Outcome
data_with head (Err code) peer = Err code
data_with head (Ok octets) peer = data_on head octets (state_among head.stream peer.streams) peer

abbrev pub data_means : Frame → Peer → Outcome
data_means frame peer =
    if is_idle peer frame.head.stream then Err protocol_error
    else data_with frame.head (content 0 frame.head.flags frame.payload) peer

-- The block with a fragment more (section 4.3).
abbrev pub longer : HeaderBlock → List ℕ → HeaderBlock
longer block fragment = record block { octets = block.octets ++ fragment }

-- A fragment more, and perhaps the last. A block that is larger than this side takes is a connection error.
abbrev pub with_fragment : ℕ → HeaderBlock → List ℕ → Peer → Meaning
with_fragment flags block fragment peer =
    if nat_lt largest_block (length block.octets + length fragment)
    then said (Err enhance_your_calm)
    else if has end_headers_flag flags then block_ends (longer block fragment)
    else said (nothing (record peer { block = Some (longer block fragment) }))

-- HEADERS (section 6.2): where the flag is set five octets of priority stand before the fragment
abbrev pub priority_octets : ℕ → ℕ
priority_octets flags = if has priority_flag flags then 5 else 0

abbrev pub headers_with : Head → Result (List ℕ) ℕ → Peer → Meaning
headers_with head (Err code) peer = said (Err code)
headers_with head (Ok fragment) peer =
    with_fragment head.flags
    (record { stream = head.stream; ends = has end_stream_flag head.flags; octets = [] }) fragment
    peer

abbrev pub headers_begin : Frame → Peer → Meaning
headers_begin frame peer =
    if frame.head.stream % 2 == 0 then said (Err protocol_error)
    else headers_with frame.head
    (content (priority_octets frame.head.flags) frame.head.flags frame.payload) peer

-- CONTINUATION (section 6.10)
abbrev pub continuation_means : Frame → HeaderBlock → Peer → Meaning
continuation_means frame block peer = with_fragment frame.head.flags block frame.payload peer

-- PRIORITY (section 6.3). Of a wrong size it is a stream error also on an idle stream, as 6.3 says of every stream; the
-- RST_STREAM that answers it then names a stream that 6.4 leaves out.
abbrev pub priority_means : Frame → Peer → Outcome
priority_means frame peer =
    if frame.head.stream == 0 then Err protocol_error
    else if not (length frame.payload == 5)
    then stream_fault frame.head.stream frame_size_error peer
    else nothing peer

-- RST_STREAM (section 6.4)
abbrev pub reset_on : ℕ → StreamState → Peer → Outcome
reset_on stream state.Closed peer = nothing peer
reset_on stream _ peer = gives (event.Reset stream) (reset stream peer)

abbrev pub rst_stream_means : Frame → Peer → Outcome
rst_stream_means frame peer =
    if not (length frame.payload == 4) then Err frame_size_error
    else if is_idle peer frame.head.stream then Err protocol_error
    else reset_on frame.head.stream (state_among frame.head.stream peer.streams) peer

-- SETTINGS (section 6.5)
abbrev pub outcome_of_settings : Result Settings ℕ → Peer → Outcome
outcome_of_settings (Err code) peer = Err code
outcome_of_settings (Ok told) peer =
    gives (event.Settings told.window told.table)
    (record peer { window = told.window; greeted = true })

-- before the first setting of a frame
abbrev pub no_setting : Peer → Settings
no_setting peer = record { window = peer.window; table = false }

abbrev pub settings_mean : Frame → Peer → Outcome
settings_mean frame peer =
    if has ack_flag frame.head.flags && not (length frame.payload == 0) then Err frame_size_error
    else if not (length frame.payload % 6 == 0) then Err frame_size_error
    else if not (frame.head.stream == 0) then Err protocol_error
    else if has ack_flag frame.head.flags then gives event.SettingsAck peer
    else outcome_of_settings (with_settings frame.payload (no_setting peer)) peer

-- PING (section 6.7)
abbrev pub ping_means : Frame → Peer → Outcome
ping_means frame peer =
    if not (length frame.payload == 8) then Err frame_size_error
    else if not (frame.head.stream == 0) then Err protocol_error
    else if has ack_flag frame.head.flags then nothing peer
    else gives (event.Ping (number 0 frame.payload)) peer

-- GOAWAY (section 6.8)
abbrev pub goaway_means : Frame → Peer → Outcome
goaway_means frame peer =
    if nat_lt (length frame.payload) 8 then Err frame_size_error
    else if not (frame.head.stream == 0) then Err protocol_error
    else gives event.GoAway peer

-- WINDOW_UPDATE (section 6.9). The reserved bit of the increment is not looked at.
abbrev pub increment_on : ℕ → ℕ → StreamState → Peer → Outcome
increment_on stream increment state.Open peer = gives (event.Window stream increment) peer
increment_on stream increment state.HalfClosedRemote peer =
    gives (event.Window stream increment) peer
increment_on stream increment _ peer = nothing peer

abbrev pub increment_means : ℕ → ℕ → Peer → Outcome
increment_means stream increment peer =
    if (increment == 0) && (stream == 0) then Err protocol_error
    else if increment == 0 then stream_fault stream protocol_error peer
    else if stream == 0 then gives (event.Window 0 increment) peer
    else increment_on stream increment (state_among stream peer.streams) peer

abbrev pub window_update_means : Frame → Peer → Outcome
window_update_means frame peer =
    if not (length frame.payload == 4) then Err frame_size_error
    else if not (frame.head.stream == 0) && is_idle peer frame.head.stream then Err protocol_error
    else increment_means frame.head.stream (number 0 frame.payload % 2 ^ 31) peer

-- a frame outside a header block
abbrev pub kind_means : Kind → Frame → Peer → Meaning
kind_means kind.Data frame peer = said (data_means frame peer)
kind_means kind.Headers frame peer = headers_begin frame peer
kind_means kind.Priority frame peer = said (priority_means frame peer)
kind_means kind.RstStream frame peer = said (rst_stream_means frame peer)
kind_means kind.Settings frame peer = said (settings_mean frame peer)
kind_means kind.PushPromise frame peer = said (Err protocol_error)
kind_means kind.Ping frame peer = said (ping_means frame peer)
kind_means kind.GoAway frame peer = said (goaway_means frame peer)
kind_means kind.WindowUpdate frame peer = said (window_update_means frame peer)
kind_means kind.Continuation frame peer = said (Err protocol_error)
kind_means kind.Unknown frame peer = said (nothing peer)

-- Nothing stands between the frames of a header block (section 6.2).
abbrev pub next_means : Option HeaderBlock → Frame → Peer → Meaning
next_means None frame peer = kind_means (kind_of frame.head.kind) frame peer
next_means (Some block) frame peer =
    if (frame.head.kind == continuation_kind) && (frame.head.stream == block.stream)
    then continuation_means frame block peer else said (Err protocol_error)

-- The first frame is SETTINGS, and no acknowledgement (section 3.4).
abbrev pub meaning_of : Frame → Peer → Meaning
meaning_of frame peer =
    if peer.greeted then next_means peer.block frame peer
    else if (frame.head.kind == settings_kind) && not (has ack_flag frame.head.flags)
    then said (settings_mean frame peer)
    else said (Err protocol_error)

abbrev pub Comes : Meaning → Peer → Outcome → Type 0
Comes (said answer) peer outcome = answer ≡ outcome
Comes (block_ends block) peer outcome = BlockMeans block peer outcome

-- the frame leads to this outcome
abbrev pub Means : Peer → Frame → Outcome → Type 0
Means peer frame outcome = Comes (meaning_of frame peer) peer outcome

-- what a reader of one frame answers, unless memory runs out
abbrev pub FrameAnswered : Meaning → Peer → Result (Option RecvEvent) RecvFault → Peer → Type 0
FrameAnswered (said outcome) peer result new = Answered outcome result new
FrameAnswered (block_ends block) peer result new =
    result ≢ Err fault.NoMemory → (outcome : Outcome) × BlockMeans block peer outcome
    × Reports outcome result new
