-- Small connections, evaluated.
use Rattle.std.specs.Prelude.{◌≡◌, refl, List, [], ◌∷◌, ◌++◌, true, false, take, codes, Some, None, Ok, Err}
use Rattle.std.proofs.Common.{inl}
use Rattle.std.specs.List.{flat_map}
use Rattle.base_kinds.specs.declared.refusal.Refusal.TheVariants.{BadMessage, DiskFault}
use Rattle.hpack_block.specs.declared.header.Header.{Header}
use Rattle.hpack_block.specs.StaticTable.{pair, static_table}
use Rattle.hpack_block.specs.Written.{block_of}
use Rattle.std.specs.Fmt.{digits}
use Rattle.h2_frame.specs.Frames.{Frame, frame_of, spelling}
use Rattle.h2_events.specs.declared.event.RecvEvent.TheVariants as events
use Rattle.h2_events.specs.declared.said.Said.TheVariants.{Message, Finish, Status}
use Rattle.h2_events.specs.Items.{Ended, as_read}
use Rattle.h2_events.specs.Items as item
use Rattle.h2_streams.specs.Calls.{Moment, read, ended, events_of, reads_of}
use Rattle.h2_send.specs.Inputs.{Input, Event, Speech}
use Rattle.h2_send.specs.Orders.{order_of}
use Rattle.h2_send.specs.Outputs.{frames_of}
use Rattle.grpc_requests.specs.declared.request.Asked.TheVariants as asks
use Rattle.grpc_requests.specs.Requests.{requests}
use Rattle.session_core.specs.Deeds.{Deed, Answering, requests_in, said_once}
use Rattle.session_core.specs.Saying.{IsSaid}
use Rattle.session_core.specs.Serving.{without_fed}

-- A frame of which nothing is looked at here but what it means.
abbrev some_frame : Frame
some_frame = frame_of (record { length = 0; kind = 0; flags = 0; stream = 0 }) []

-- Headers of a POST that isn't gRPC's, and of a Set without a message.
abbrev plain_text : List Header
plain_text = pair (codes ":method") (codes "POST") ∷ pair (codes "content-type") (codes "text/plain") ∷ []

abbrev set : List Header
set =
    pair (codes ":method") (codes "POST") ∷ pair (codes ":path") (codes "/gnmi.gNMI/Set")
    ∷ pair (codes "content-type") (codes "application/grpc") ∷ []

-- SETTINGS, a call that is no call of gRPC, and one that has no message: each is answered before the next frame is read.
abbrev moments : List Moment
moments =
    read some_frame (Some (events.Settings 65535 false))
    ∷ read some_frame (Some (events.Call 1 plain_text true)) ∷ ended 1
    ∷ read some_frame (Some (events.Call 3 set true)) ∷ ended 3 ∷ []

abbrev inputs : List Input
inputs =
    Event (events.Settings 65535 false)
    ∷ Event (events.Call 1 plain_text true) ∷ Speech 1 (Status 415)
    ∷ Event (events.Call 3 set true) ∷ Speech 3 (Finish (Some BadMessage)) ∷ []

abbrev deeds : List Deed
deeds =
    record { stream = 1; doing = Answering (asks.Http 415); given = take 2 inputs; readings = []; turn = None; failed = false; said = Status 415 ∷ [] }
    ∷ record { stream = 3; doing = Answering (asks.Refused BadMessage); given = take 4 inputs; readings = []; turn = None; failed = false; said = Finish (Some BadMessage) ∷ [] }
    ∷ []

pub asked : requests_in deeds ++ [] ≡ requests (events_of moments)
asked = refl

pub one_order : without_fed [] (as_read (order_of inputs)) ≡ without_fed [] (reads_of moments)
one_order = refl

-- the end of a call that a feeder serves isn't told
pub end_untold : without_fed (3 ∷ []) (as_read (order_of inputs))
    ≡ item.Event (events.Settings 65535 false) ∷ item.Event (events.Call 1 plain_text true) ∷ Ended 1
    ∷ item.Event (events.Call 3 set true) ∷ []
end_untold = refl

pub said_first : IsSaid 1 [] (order_of inputs) deeds
said_first = inl refl

pub said_second : IsSaid 3 [] (order_of inputs) deeds
said_second = inl refl

-- the greeting, the ACK of SETTINGS, a status alone, and a refusal in one frame of HEADERS
pub written :
    flat_map spelling (frames_of inputs)
    ≡ (0 ∷ 0 ∷ 12 ∷ 4 ∷ 0 ∷ 0 ∷ 0 ∷ 0 ∷ 0 ∷ 0 ∷ 3 ∷ 0 ∷ 0 ∷ 0 ∷ 32 ∷ 0 ∷ 6 ∷ 0 ∷ 0 ∷ 64 ∷ 0 ∷ [])
    ++ (0 ∷ 0 ∷ 0 ∷ 4 ∷ 1 ∷ 0 ∷ 0 ∷ 0 ∷ 0 ∷ [])
    ++ (0 ∷ 0 ∷ 5 ∷ 1 ∷ 5 ∷ 0 ∷ 0 ∷ 0 ∷ 1 ∷ 8 ∷ 3 ∷ codes "415")
    ++ (0 ∷ 0 ∷ 62 ∷ 1 ∷ 5 ∷ 0 ∷ 0 ∷ 0 ∷ 3 ∷ 136 ∷ 15 ∷ 16 ∷ 16 ∷ codes "application/grpc")
    ++ (0 ∷ 11 ∷ codes "grpc-status") ++ (2 ∷ codes "13")
    ++ (0 ∷ 12 ∷ codes "grpc-message") ++ (11 ∷ codes "bad message")
unfolding block_of static_table digits
written = refl

-- ---- a ONCE call: its messages in their order and then the end, or the refusal that ends it

pub once_told : said_once (Ok ((1 ∷ []) ∷ (2 ∷ []) ∷ [])) ≡ Message (1 ∷ []) ∷ Message (2 ∷ []) ∷ Finish None ∷ []
once_told = refl

pub once_refused : said_once (Err DiskFault) ≡ Finish (Some DiskFault) ∷ []
once_refused = refl
