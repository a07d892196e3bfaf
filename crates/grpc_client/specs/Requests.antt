-- What begins a connection, and what begins a call on it (RFC 9113 section 3.4; gRPC over HTTP/2, "Requests").
use Rattle.std.specs.Prelude.{ℕ, ◌+◌, List, [], ◌∷◌, ◌++◌, Bool, true, false, length, codes}
use Rattle.std.specs.Int.{bytes_high_first}
use Rattle.hpack_block.specs.declared.header.Header.{Header}
use Rattle.hpack_block.specs.StaticTable.{pair}
use Rattle.hpack_block.specs.Written.{block_of, update_of}
use Rattle.h2_frame.specs.Frames.{Frame, frame_of}
use Rattle.h2_frame.specs.Kinds.{headers_kind, settings_kind, end_headers_flag}
use Rattle.grpc_core.specs.declared.method.Method.{Method}
use Rattle.grpc_core.specs.Heads.{path_of}
use Rattle.grpc_client.specs.declared.connection.Connection.{Connection}
use Rattle.grpc_client.specs.Connections.{opened}
use Rattle.grpc_client.specs.Exchanges.{Exchange, owing}

-- the octets before a client's frames
abbrev pub preface : List ℕ
preface = codes "PRI * HTTP/2.0" ++ 13 ∷ 10 ∷ 13 ∷ 10 ∷ codes "SM" ++ 13 ∷ 10 ∷ 13 ∷ 10 ∷ []

-- SETTINGS with ENABLE_PUSH 0 and MAX_HEADER_LIST_SIZE 16,384 (RFC 9113 section 6.5.2)
abbrev pub client_settings : Frame
client_settings =
    frame_of (record { length = 12; kind = settings_kind; flags = 0; stream = 0 })
    (bytes_high_first 2 2 ++ bytes_high_first 4 0 ++ bytes_high_first 2 6
    ++ bytes_high_first 4 16384)

abbrev pub request_headers : List ℕ → Method → List Header
request_headers authority method =
    pair (codes ":method") (codes "POST") ∷ pair (codes ":scheme") (codes "http")
    ∷ pair (codes ":path") (path_of method) ∷ pair (codes ":authority") authority
    ∷ pair (codes "content-type") (codes "application/grpc")
    ∷ pair (codes "te") (codes "trailers") ∷ []

-- The first block behind a SETTINGS frame with HEADER_TABLE_SIZE begins with an update of the table's size, to 0
-- (RFC 7541 section 4.2).
abbrev pub update_owed : Bool → List ℕ
update_owed true = update_of 0
update_owed false = []

abbrev pub block_frame : ℕ → List ℕ → Frame
block_frame stream block =
    frame_of
    (record {
      length = length block;
      kind = headers_kind;
      flags = end_headers_flag;
      stream = stream;
    }) block

-- the HEADERS of a call, in one frame
abbrev pub request_frame : Bool → ℕ → List ℕ → Method → Frame
request_frame owes stream authority method =
    block_frame stream (update_owed owes ++ block_of (request_headers authority method))

-- On a connection that hasn't begun, SETTINGS stand before the HEADERS,
abbrev pub opening_frames : Bool → Bool → ℕ → List ℕ → Method → List Frame
opening_frames true owes stream authority method = request_frame owes stream authority method ∷ []
opening_frames false owes stream authority method =
    client_settings ∷ request_frame owes stream authority method ∷ []

-- and the preface before all frames.
abbrev pub opening_octets : Bool → List ℕ
opening_octets true = []
opening_octets false = preface

-- a call begins: its stream is open, and the frames that open it are to be sent
abbrev pub calling : ℕ → List ℕ → Method → List ℕ → Connection → Exchange
calling stream authority method octets connection =
    owing
    (opening_frames connection.begun connection.owes_update stream authority method)
    (opened stream octets connection)
