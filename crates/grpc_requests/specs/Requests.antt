-- The requests of a connection, in order.
use Rattle.std.specs.Prelude.{ℕ, ◌==◌, List, [], ◌∷◌, ◌++◌, length, drop, map, Bool, false, if◌then◌else◌, Option, Some, None}
use Rattle.std.specs.List.{fold}
use Rattle.h2_events.specs.declared.event.RecvEvent.{RecvEvent}
use Rattle.h2_events.specs.declared.event.RecvEvent.TheVariants as events
use Rattle.grpc_requests.specs.declared.request.Asked.{Asked}
use Rattle.grpc_requests.specs.declared.request.Request.{Request}
use Rattle.grpc_requests.specs.Calls.{Call, stream_of, call_after, asks_by, is_over}

abbrev pub is_on : ℕ → Option ℕ → Bool
is_on stream None = false
is_on stream (Some other) = other == stream

abbrev pub still_open : Option Call → Option Call
still_open None = None
still_open (Some call) = if is_over call then None else Some call

abbrev pub open_after : ℕ → Option Call → RecvEvent → Option Call
open_after stream call event = if is_on stream (stream_of event)
    then still_open (call_after event call) else call

-- the call that is open on a stream after these events
abbrev pub open_call : ℕ → List RecvEvent → Option Call
open_call stream heard = fold (open_after stream) None heard

-- what it had asked before an event, with which a call may begin
abbrev pub asked_before : RecvEvent → Option Call → List Asked
asked_before (events.Call stream headers ended) call = []
asked_before (events.TooLong stream) call = []
asked_before _ call = asks_by call

-- what it asks with the event
abbrev pub asks_more : RecvEvent → Option Call → List Asked
asks_more event call = drop (length (asked_before event call)) (asks_by (call_after event call))

abbrev pub requests_of : ℕ → List Asked → List Request
requests_of stream asks = map (λ asked. record { stream = stream; asked = asked }) asks

-- the requests that come with an event, behind the events before it
abbrev pub requests_on : List RecvEvent → RecvEvent → Option ℕ → List Request
requests_on heard event None = []
requests_on heard event (Some stream) =
    requests_of stream (asks_more event (open_call stream heard))

abbrev pub requests_with : List RecvEvent → RecvEvent → List Request
requests_with heard event = requests_on heard event (stream_of event)

-- the requests of events behind others
abbrev pub requests_after : List RecvEvent → List RecvEvent → List Request
requests_after heard [] = []
requests_after heard (event ∷ events) =
    requests_with heard event ++ requests_after (heard ++ event ∷ []) events

abbrev pub requests : List RecvEvent → List Request
requests events = requests_after [] events
