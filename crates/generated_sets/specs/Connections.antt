-- The octets that the client sends, from the preface on: for each Set a WINDOW_UPDATE that gives back what the reply before
-- it took, HEADERS and DATA on a stream of its own, and at the end GOAWAY (RFC 9113 sections 3.4 and 6).
use Rattle.std.specs.Prelude.{ℕ, zero, suc, ◌+◌, List, [], ◌∷◌, ◌++◌, codes, length}
use Rattle.std.specs.Int.{bytes_high_first}
use Rattle.h2_frame.specs.Frames.{Frame, spelling}
use Rattle.h2_frame.specs.Kinds.{data_kind, headers_kind, settings_kind, goaway_kind, window_update_kind}
use Rattle.h2_frame.specs.Kinds.{end_stream_flag, end_headers_flag}
use Rattle.hpack_block.specs.declared.header.Header.{Header}
use Rattle.hpack_block.specs.StaticTable.{pair}
use Rattle.hpack_block.specs.Written.{block_of}
use Rattle.grpc_core.specs.Messages.{framed}
use Rattle.generated_sets.specs.Draws.{state_behind, drawn_at}
use Rattle.generated_sets.specs.Messages.{set_request}

abbrev pub preface : List ℕ
preface = codes "PRI * HTTP/2.0" ++ 13 ∷ 10 ∷ 13 ∷ 10 ∷ codes "SM" ++ 13 ∷ 10 ∷ 13 ∷ 10 ∷ []

-- a frame of this kind with these flags, on this stream, with this payload
abbrev pub frame : ℕ → ℕ → ℕ → List ℕ → List ℕ
frame kind flags stream payload = spelling (record {
  head = record { length = length payload; kind = kind; flags = flags; stream = stream };
  payload = payload;
})

-- the head of a call of Set (gRPC over HTTP/2, "Request-Headers")
abbrev pub set_headers : List Header
set_headers =
    pair (codes ":method") (codes "POST") ∷ pair (codes ":scheme") (codes "http")
    ∷ pair (codes ":path") (codes "/gnmi.gNMI/Set") ∷ pair (codes ":authority") (codes "x")
    ∷ pair (codes "content-type") (codes "application/grpc") ∷ pair (codes "te") (codes "trailers")
    ∷ pair (codes "user-agent") (codes "g") ∷ pair (codes "grpc-timeout") (codes "5S") ∷ []

-- how many octets a reply takes of the connection's window at most
abbrev pub window_of_reply : ℕ
window_of_reply = 128

abbrev pub window_frame : List ℕ
window_frame = frame window_update_kind 0 0 (bytes_high_first 4 window_of_reply)

abbrev pub head_frame : ℕ → List ℕ
head_frame stream = frame headers_kind end_headers_flag stream (block_of set_headers)

abbrev pub message_frame : ℕ → ℕ → List ℕ
message_frame stream drawn = frame data_kind end_stream_flag stream (framed (set_request drawn))

-- the Set that is drawn so, on this stream
abbrev pub frames_of_set : ℕ → ℕ → List ℕ
frames_of_set stream drawn = window_frame ++ head_frame stream ++ message_frame stream drawn

-- so many Sets, the first of them on this stream, drawn behind this state
abbrev pub frames_of_sets : ℕ → ℕ → ℕ → List ℕ
frames_of_sets zero stream state = []
frames_of_sets (suc count) stream state =
    frames_of_set stream (drawn_at (state_behind state))
    ++ frames_of_sets count (stream + 2) (state_behind state)

abbrev pub opening : List ℕ
opening = preface ++ frame settings_kind 0 0 []

-- the last stream that was served, and no error
abbrev pub farewell : List ℕ
farewell = frame goaway_kind 0 0 (bytes_high_first 4 0 ++ bytes_high_first 4 0)

abbrev pub connection_of_sets : ℕ → ℕ → List ℕ
connection_of_sets seed count = opening ++ frames_of_sets count 1 seed ++ farewell
