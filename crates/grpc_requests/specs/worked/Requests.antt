-- Calls as they are heard, and the requests that they make.
use Rattle.std.specs.Prelude.{◌≡◌, refl, ℕ, List, [], ◌∷◌, ◌++◌, true, false, codes}
use Rattle.base_kinds.specs.declared.refusal.Refusal.TheVariants as refusals
use Rattle.hpack_block.specs.declared.header.Header.{Header}
use Rattle.hpack_block.specs.StaticTable.{pair}
use Rattle.h2_events.specs.declared.event.RecvEvent.TheVariants.{Call, TooLong, Piece, Trailers, Reset, Ping}
use Rattle.grpc_core.specs.declared.method.Method.TheVariants as methods
use Rattle.grpc_requests.specs.declared.request.Asked.{Asked}
use Rattle.grpc_requests.specs.declared.request.Asked.TheVariants as asks
use Rattle.grpc_requests.specs.declared.request.Later.TheVariants as later
use Rattle.grpc_requests.specs.declared.request.Request.{Request}
use Rattle.grpc_requests.specs.Requests.{requests}

abbrev headers_to : List ℕ → List Header
headers_to path =
    pair (codes ":method") (codes "POST") ∷ pair (codes ":path") path
    ∷ pair (codes "content-type") (codes "application/grpc") ∷ []

abbrev set : List Header
set = headers_to (codes "/gnmi.gNMI/Set")

abbrev asks_for : ℕ → Asked → List Request
asks_for stream asked = record { stream = stream; asked = asked } ∷ []

pub one_piece :
    requests (Call 1 set false ∷ Piece 1 (0 ∷ 0 ∷ 0 ∷ 0 ∷ 1 ∷ 7 ∷ []) 6 true ∷ [])
    ≡ asks_for 1 (asks.Call methods.Set (7 ∷ []))
one_piece = refl

pub two_pieces :
    requests (Call 1 set false ∷ Piece 1 (0 ∷ 0 ∷ 0 ∷ []) 3 false ∷ Ping 0
    ∷ Piece 1 (0 ∷ 1 ∷ 7 ∷ []) 3 true ∷ [])
    ≡ asks_for 1 (asks.Call methods.Set (7 ∷ []))
two_pieces = refl

-- The end of the stream decides, whatever tells it.
pub trailers_end_it :
    requests (Call 1 set false ∷ Piece 1 (0 ∷ 0 ∷ 0 ∷ 0 ∷ 0 ∷ []) 5 false ∷ Trailers 1 ∷ [])
    ≡ asks_for 1 (asks.Call methods.Set [])
trailers_end_it = refl

pub not_ended : requests (Call 1 set false ∷ Piece 1 (0 ∷ 0 ∷ 0 ∷ 0 ∷ 1 ∷ 7 ∷ []) 6 false ∷ []) ≡ []
not_ended = refl

pub no_message : requests (Call 1 set true ∷ []) ≡ asks_for 1 (asks.Refused refusals.BadMessage)
no_message = refl

pub second_message :
    requests (Call 1 set false ∷ Piece 1 (0 ∷ 0 ∷ 0 ∷ 0 ∷ 0 ∷ 0 ∷ 0 ∷ 0 ∷ 0 ∷ 0 ∷ []) 10 true ∷ [])
    ≡ asks_for 1 (asks.Refused refusals.BadMessage)
second_message = refl

-- A fault is answered at once, and what follows on the stream makes no further request.
pub compressed :
    requests (Call 1 set false ∷ Piece 1 (1 ∷ 0 ∷ 0 ∷ 0 ∷ 9 ∷ []) 5 false
    ∷ Piece 1 (7 ∷ []) 1 true ∷ [])
    ≡ asks_for 1 (asks.Refused refusals.Compressed)
compressed = refl

pub reset : requests (Call 1 set false ∷ Reset 1 ∷ Piece 1 (0 ∷ 0 ∷ 0 ∷ 0 ∷ 0 ∷ []) 5 true
    ∷ []) ≡ []
reset = refl

abbrev subscribe : List Header
subscribe = headers_to (codes "/gnmi.gNMI/Subscribe")

-- A Subscribe call asks with its first message, before the peer ends the stream, with each one behind it, and with its end.
pub first_and_later :
    requests (Call 1 subscribe false ∷ Piece 1 (0 ∷ 0 ∷ 0 ∷ 0 ∷ 1 ∷ 7 ∷ []) 6 false
    ∷ Piece 1 (0 ∷ 0 ∷ 0 ∷ 0 ∷ 0 ∷ 0 ∷ []) 6 false ∷ Piece 1 (0 ∷ 0 ∷ 0 ∷ 1 ∷ 8 ∷ []) 5 true ∷ [])
    ≡ asks_for 1 (asks.Subscribe (7 ∷ [])) ++ asks_for 1 (asks.Later (later.Message []))
    ++ asks_for 1 (asks.Later (later.Message (8 ∷ []))) ++ asks_for 1 (asks.Later later.End)
first_and_later = refl

pub fault_behind_it :
    requests (Call 1 subscribe false
    ∷ Piece 1 (0 ∷ 0 ∷ 0 ∷ 0 ∷ 1 ∷ 7 ∷ 1 ∷ 0 ∷ 0 ∷ 0 ∷ 9 ∷ []) 11 false
    ∷ Piece 1 (0 ∷ 0 ∷ 0 ∷ 0 ∷ 0 ∷ []) 5 true ∷ [])
    ≡ asks_for 1 (asks.Subscribe (7 ∷ []))
    ++ asks_for 1 (asks.Later (later.Fault refusals.Compressed))
fault_behind_it = refl

pub ended_within_a_later_one :
    requests (Call 1 subscribe false ∷ Piece 1 (0 ∷ 0 ∷ 0 ∷ 0 ∷ 1 ∷ 7 ∷ 0 ∷ 0 ∷ []) 8 true ∷ [])
    ≡ asks_for 1 (asks.Subscribe (7 ∷ [])) ++ asks_for 1 (asks.Later later.End)
ended_within_a_later_one = refl

pub fault_before_it :
    requests (Call 1 subscribe false ∷ Piece 1 (1 ∷ 0 ∷ 0 ∷ 0 ∷ 9 ∷ []) 5 false
    ∷ Piece 1 (0 ∷ 0 ∷ 0 ∷ 0 ∷ 0 ∷ []) 5 true ∷ [])
    ≡ asks_for 1 (asks.Refused refusals.Compressed)
fault_before_it = refl

pub ended_within_it :
    requests (Call 1 subscribe false ∷ Piece 1 (0 ∷ 0 ∷ 0 ∷ 0 ∷ 1 ∷ []) 5 true ∷ [])
    ≡ asks_for 1 (asks.Refused refusals.BadSubscribe)
ended_within_it = refl

pub ended_before_it : requests (Call 1 subscribe true ∷ [])
    ≡ asks_for 1 (asks.Refused refusals.BadSubscribe)
ended_before_it = refl

pub no_such_method : requests (Call 1 (headers_to (codes "/x")) false ∷ [])
    ≡ asks_for 1 (asks.Refused refusals.NoMethod)
no_such_method = refl

pub another_method_of_http : requests (Call 1 [] true ∷ []) ≡ asks_for 1 (asks.Http 405)
another_method_of_http = refl

pub long_list_of_headers : requests (TooLong 1 ∷ []) ≡ asks_for 1 (asks.Refused refusals.TooLarge)
long_list_of_headers = refl

-- in the order in which they are whole
pub two_streams :
    requests (Call 1 set false ∷ Call 3 set true ∷ Piece 1 (0 ∷ 0 ∷ 0 ∷ 0 ∷ 0 ∷ []) 5 true ∷ [])
    ≡ record { stream = 3; asked = asks.Refused refusals.BadMessage }
    ∷ record { stream = 1; asked = asks.Call methods.Set [] } ∷ []
two_streams = refl
