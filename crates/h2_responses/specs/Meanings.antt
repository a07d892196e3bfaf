-- What a frame of a server means to a client, where all before it is known: one definition a kind (RFC 9113 section 6). Of
-- each frame the first fault that holds counts. A stream error (section 5.4.2) is a connection error here: there is one
-- stream at a time.
use Rattle.std.specs.Prelude.{◌≡◌, ◌≢◌, ℕ, ◌+◌, ◌%◌, ◌^◌, List, [], ◌∷◌, ◌++◌, Bool, true, false, not, ◌&&◌, ◌||◌, ◌==◌, nat_lt, length, Option, Some, None, Result, Ok, Err, if◌then◌else◌}
use Rattle.hpack_block.specs.declared.header.Header.{Header}
use Rattle.hpack_block.specs.declared.header.BlockFault.{BlockFault}
use Rattle.hpack_block.specs.declared.header.BlockFault.TheVariants as unread
use Rattle.hpack_block.specs.Answers.{Answers}
use Rattle.h2_frame.specs.declared.frame.Head.{Head}
use Rattle.h2_frame.specs.Frames.{Frame}
use Rattle.h2_frame.specs.ErrorCodes.{protocol_error, frame_size_error, compression_error, enhance_your_calm}
use Rattle.h2_frame.specs.Kinds.{continuation_kind, settings_kind, ack_flag, end_stream_flag, end_headers_flag, priority_flag}
use Rattle.h2_events.specs.declared.event.RecvFault.{RecvFault}
use Rattle.h2_events.specs.declared.event.RecvFault.TheVariants as fault
use Rattle.h2_streams.specs.declared.kind.Kind.{Kind}
use Rattle.h2_streams.specs.declared.kind.Kind.TheVariants as kind
use Rattle.h2_streams.specs.declared.peer.HeaderBlock.{HeaderBlock}
use Rattle.h2_streams.specs.declared.settings.Settings.{Settings}
use Rattle.h2_streams.specs.Codes.{has, kind_of, largest_block}
use Rattle.h2_streams.specs.Payloads.{content, number, with_settings}
use Rattle.h2_responses.specs.declared.event.ServerEvent.{ServerEvent}
use Rattle.h2_responses.specs.declared.event.ServerEvent.TheVariants as event
use Rattle.h2_responses.specs.declared.server.ResponseState.{ResponseState}
use Rattle.h2_responses.specs.declared.server.ResponseState.TheVariants.{Waiting, Headed, Over}
use Rattle.h2_responses.specs.declared.server.Server.{Server}
use Rattle.h2_responses.specs.States.{is_unopened, state_on, in_state}
use Rattle.h2_responses.specs.Outcomes.{Outcome, Reports, Answered, nothing, gives}

-- what is left to say of a frame: nothing, or what its header block means, which is whole now
pub data Meaning : Type 0 where
  said : Outcome → Meaning
  block_ends : HeaderBlock → Meaning

-- ---- DATA (section 6.1)

-- DATA comes behind the headers of the response alone (section 8.1). On a stream that is over it counts against the
-- connection's window alone.
abbrev pub data_on : Head → List ℕ → ResponseState → Server → Outcome
data_on head octets Headed server =
    gives (event.Piece head.stream octets head.length (has end_stream_flag head.flags))
    (if has end_stream_flag head.flags then in_state Over server else server)
data_on head octets Waiting server = Err protocol_error
data_on head octets Over server = gives (event.Piece head.stream [] head.length true) server

abbrev pub data_with : Head → Result (List ℕ) ℕ → Server → Outcome
data_with head (Err code) server = Err code
data_with head (Ok octets) server = data_on head octets (state_on server head.stream) server

abbrev pub data_means : Frame → Server → Outcome
data_means frame server =
    if is_unopened server frame.head.stream then Err protocol_error
    else data_with frame.head (content 0 frame.head.flags frame.payload) server

-- ---- header blocks (sections 4.3, 6.2, 6.10 and 8.1)

abbrev pub longer : HeaderBlock → List ℕ → HeaderBlock
longer block fragment = record block { octets = block.octets ++ fragment }

-- A fragment more, and perhaps the last. A block that is larger than this side takes is a connection error.
abbrev pub with_fragment : ℕ → HeaderBlock → List ℕ → Server → Meaning
with_fragment flags block fragment server =
    if nat_lt largest_block (length block.octets + length fragment)
    then said (Err enhance_your_calm)
    else if has end_headers_flag flags then block_ends (longer block fragment)
    else said (nothing (record server { block = Some (longer block fragment) }))

-- where the flag is set five octets of priority stand before the fragment
abbrev pub priority_octets : ℕ → ℕ
priority_octets flags = if has priority_flag flags then 5 else 0

abbrev pub headers_with : Head → Result (List ℕ) ℕ → Server → Meaning
headers_with head (Err code) server = said (Err code)
headers_with head (Ok fragment) server =
    with_fragment head.flags
    (record { stream = head.stream; ends = has end_stream_flag head.flags; octets = [] }) fragment
    server

abbrev pub headers_begin : Frame → Server → Meaning
headers_begin frame server =
    if is_unopened server frame.head.stream then said (Err protocol_error)
    else headers_with frame.head
    (content (priority_octets frame.head.flags) frame.head.flags frame.payload) server

abbrev pub continuation_means : Frame → HeaderBlock → Server → Meaning
continuation_means frame block server =
    with_fragment frame.head.flags block frame.payload server

-- The first block begins the response, and the second one ends it (section 8.1).
abbrev pub block_on : ℕ → Bool → List Header → ResponseState → Server → Outcome
block_on stream ends headers Waiting server =
    gives (event.Head stream headers ends) (in_state (if ends then Over else Headed) server)
block_on stream ends headers Headed server =
    if ends then gives (event.Trailers stream headers) (in_state Over server)
    else Err protocol_error
block_on stream ends headers Over server = nothing server

-- by what the decoder reads in it: a list of headers that is longer than this side takes is a connection error
abbrev pub headers_mean : ℕ → Bool → Result (List Header) BlockFault → Server → Outcome
headers_mean stream ends (Ok headers) server =
    block_on stream ends headers (state_on server stream) server
headers_mean stream ends (Err unread.TooLong) server = Err enhance_your_calm
headers_mean stream ends (Err _) server = Err compression_error

-- The block is read with the connection's table, which every block changes, also one that is then dropped.
pub record BlockMeans (block : HeaderBlock) (server : Server) (outcome : Outcome) : Type 0 where
  pub list : Result (List Header) BlockFault
  pub server_then : Server
  pub read : Answers server.decoder block.octets list server_then.decoder
  pub in_memory : list ≢ Err unread.NoMemory
  pub server_then_is : server_then
      ≡ record server { decoder = server_then.decoder; block = None }
  pub outcome_is : outcome ≡ headers_mean block.stream block.ends list server_then

-- ---- the other kinds

-- PRIORITY (section 6.3)
abbrev pub priority_means : Frame → Server → Outcome
priority_means frame server =
    if frame.head.stream == 0 then Err protocol_error
    else if not (length frame.payload == 5) then Err frame_size_error
    else nothing server

-- RST_STREAM (section 6.4)
abbrev pub reset_on : ℕ → ℕ → ResponseState → Server → Outcome
reset_on stream code Over server = nothing server
reset_on stream code _ server = gives (event.Reset stream code) (in_state Over server)

abbrev pub rst_stream_means : Frame → Server → Outcome
rst_stream_means frame server =
    if not (length frame.payload == 4) then Err frame_size_error
    else if is_unopened server frame.head.stream then Err protocol_error
    else reset_on frame.head.stream (number 0 frame.payload) (state_on server frame.head.stream)
    server

-- A server's ENABLE_PUSH is 0 (section 6.5.2).
abbrev pub has_push : List ℕ → Bool
has_push (n1 ∷ n0 ∷ v3 ∷ v2 ∷ v1 ∷ v0 ∷ rest) =
    ((n1 == 0) && (n0 == 2) && nat_lt 0 (number 0 (v3 ∷ v2 ∷ v1 ∷ v0 ∷ []))) || has_push rest
has_push _ = false

-- SETTINGS (section 6.5)
abbrev pub outcome_of_settings : Result Settings ℕ → Server → Outcome
outcome_of_settings (Err code) server = Err code
outcome_of_settings (Ok told) server =
    gives (event.Settings told.window told.table)
    (record server { window = told.window; greeted = true })

-- before the first setting of a frame
abbrev pub no_setting : Server → Settings
no_setting server = record { window = server.window; table = false }

abbrev pub settings_mean : Frame → Server → Outcome
settings_mean frame server =
    if has ack_flag frame.head.flags && not (length frame.payload == 0) then Err frame_size_error
    else if not (length frame.payload % 6 == 0) then Err frame_size_error
    else if not (frame.head.stream == 0) then Err protocol_error
    else if has ack_flag frame.head.flags then gives event.SettingsAck server
    else if has_push frame.payload then Err protocol_error
    else outcome_of_settings (with_settings frame.payload (no_setting server)) server

-- PING (section 6.7)
abbrev pub ping_means : Frame → Server → Outcome
ping_means frame server =
    if not (length frame.payload == 8) then Err frame_size_error
    else if not (frame.head.stream == 0) then Err protocol_error
    else if has ack_flag frame.head.flags then nothing server
    else gives (event.Ping (number 0 frame.payload)) server

-- GOAWAY (section 6.8). The reserved bit of the stream is not looked at.
abbrev pub last_named : List ℕ → ℕ
last_named (a ∷ b ∷ c ∷ d ∷ rest) = number 0 (a ∷ b ∷ c ∷ d ∷ []) % 2 ^ 31
last_named _ = 0

abbrev pub goaway_means : Frame → Server → Outcome
goaway_means frame server =
    if nat_lt (length frame.payload) 8 then Err frame_size_error
    else if not (frame.head.stream == 0) then Err protocol_error
    else gives (event.GoAway (last_named frame.payload)) server

-- WINDOW_UPDATE (section 6.9). The reserved bit of the increment is not looked at.
abbrev pub increment_on : ℕ → ℕ → ResponseState → Server → Outcome
increment_on stream increment Over server = nothing server
increment_on stream increment _ server = gives (event.Window stream increment) server

abbrev pub increment_means : ℕ → ℕ → Server → Outcome
increment_means stream increment server =
    if increment == 0 then Err protocol_error
    else if stream == 0 then gives (event.Window 0 increment) server
    else increment_on stream increment (state_on server stream) server

abbrev pub window_update_means : Frame → Server → Outcome
window_update_means frame server =
    if not (length frame.payload == 4) then Err frame_size_error
    else if not (frame.head.stream == 0) && is_unopened server frame.head.stream
    then Err protocol_error
    else increment_means frame.head.stream (number 0 frame.payload % 2 ^ 31) server

-- A frame outside a header block. PUSH_PROMISE comes to nobody who has said that ENABLE_PUSH is 0 (section 6.6).
abbrev pub kind_means : Kind → Frame → Server → Meaning
kind_means kind.Data frame server = said (data_means frame server)
kind_means kind.Headers frame server = headers_begin frame server
kind_means kind.Priority frame server = said (priority_means frame server)
kind_means kind.RstStream frame server = said (rst_stream_means frame server)
kind_means kind.Settings frame server = said (settings_mean frame server)
kind_means kind.PushPromise frame server = said (Err protocol_error)
kind_means kind.Ping frame server = said (ping_means frame server)
kind_means kind.GoAway frame server = said (goaway_means frame server)
kind_means kind.WindowUpdate frame server = said (window_update_means frame server)
kind_means kind.Continuation frame server = said (Err protocol_error)
kind_means kind.Unknown frame server = said (nothing server)

-- Nothing stands between the frames of a header block (section 6.2).
abbrev pub next_means : Option HeaderBlock → Frame → Server → Meaning
next_means None frame server = kind_means (kind_of frame.head.kind) frame server
next_means (Some block) frame server =
    if (frame.head.kind == continuation_kind) && (frame.head.stream == block.stream)
    then continuation_means frame block server else said (Err protocol_error)

-- The first frame is SETTINGS, and no acknowledgement (section 3.4).
abbrev pub meaning_of : Frame → Server → Meaning
meaning_of frame server =
    if server.greeted then next_means server.block frame server
    else if (frame.head.kind == settings_kind) && not (has ack_flag frame.head.flags)
    then said (settings_mean frame server)
    else said (Err protocol_error)

abbrev pub Comes : Meaning → Server → Outcome → Type 0
Comes (said answer) server outcome = answer ≡ outcome
Comes (block_ends block) server outcome = BlockMeans block server outcome

-- the frame leads to this outcome
abbrev pub Means : Server → Frame → Outcome → Type 0
Means server frame outcome = Comes (meaning_of frame server) server outcome

-- the frame is a connection error with this code (section 5.4.1)
abbrev pub IsFault : Server → Frame → ℕ → Type 0
IsFault server frame code = Means server frame (Err code)

-- what a reader of one frame answers, unless memory runs out
abbrev pub FrameAnswered : Meaning → Server → Result (Option ServerEvent) RecvFault → Server
    → Type 0
FrameAnswered (said outcome) server result new = Answered outcome result new
FrameAnswered (block_ends block) server result new =
    result ≢ Err fault.NoMemory → (outcome : Outcome) × BlockMeans block server outcome
    × Reports outcome result new
