-- The HEADERS frames of a server's replies (RFC 9113 section 6.2; gRPC over HTTP/2, "Responses").
use Rattle.std.specs.Prelude.{ℕ, ◌+◌, Bool, true, false, List, [], ◌∷◌, ◌++◌, length, Option, Some, None, codes, decimal}
use Rattle.base_kinds.specs.declared.refusal.Refusal.{Refusal}
use Rattle.h2_frame.specs.Frames.{Frame, frame_of}
use Rattle.h2_frame.specs.Kinds.{headers_kind, end_headers_flag, end_stream_flag}
use Rattle.hpack_block.specs.declared.header.Header.{Header}
use Rattle.hpack_block.specs.StaticTable.{pair}
use Rattle.hpack_block.specs.Written.{block_of, update_of}
use Rattle.grpc_core.specs.Replies.{opening_headers, trailers}

-- The first block after the peer changed the table's size begins with an update of it, to 0 (RFC 7541 section 4.2).
abbrev pub update_owed : Bool → List ℕ
update_owed true = update_of 0
update_owed false = []

abbrev pub block_with : Bool → List Header → List ℕ
block_with owes headers = update_owed owes ++ block_of headers

-- a header block in one frame
abbrev pub block_frame : ℕ → ℕ → List ℕ → Frame
block_frame id flags block =
    frame_of (record {
      length = length block;
      kind = headers_kind;
      flags = flags;
      stream = id;
    }) block

abbrev pub headers_frame : Bool → ℕ → ℕ → List Header → Frame
headers_frame owes id flags headers = block_frame id flags (block_with owes headers)

-- Flags of HEADERS that others follow, and of the last.
abbrev pub goes_on : ℕ
goes_on = end_headers_flag

abbrev pub last : ℕ
last = end_headers_flag + end_stream_flag

-- before the first message of a stream that has not begun
abbrev pub opening : Bool → Bool → ℕ → List Frame
opening true owes id = []
opening false owes id = headers_frame owes id goes_on opening_headers ∷ []

-- The end of a stream. Where it has not begun a refusal is in one frame with the headers before a message
-- ("Trailers-Only"), and else the trailers have a frame of their own.
abbrev pub ending : Bool → Bool → ℕ → Option Refusal → List Frame
ending true owes id refusal = headers_frame owes id last (trailers refusal) ∷ []
ending false owes id (Some refusal) =
    headers_frame owes id last (opening_headers ++ trailers (Some refusal)) ∷ []
ending false owes id None =
    headers_frame owes id goes_on opening_headers ∷ headers_frame false id last (trailers None) ∷ []

-- a status of HTTP alone (RFC 9113 section 8.3.2)
abbrev pub status_headers : ℕ → List Header
status_headers status = pair (codes ":status") (decimal status) ∷ []

abbrev pub status_answer : Bool → ℕ → ℕ → List Frame
status_answer owes id status = headers_frame owes id last (status_headers status) ∷ []
