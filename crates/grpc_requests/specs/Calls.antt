-- A call as it is heard, and what it asks for (gRPC over HTTP/2, "Requests").
use Rattle.std.specs.Prelude.{ℕ, List, [], ◌∷◌, ◌++◌, Bool, true, false, ◌||◌, Option, Some, None, option_map}
use Rattle.base_kinds.specs.declared.refusal.Refusal.{Refusal}
use Rattle.base_kinds.specs.declared.refusal.Refusal.TheVariants as refusals
use Rattle.hpack_block.specs.declared.header.Header.{Header}
use Rattle.h2_events.specs.declared.event.RecvEvent.{RecvEvent}
use Rattle.h2_events.specs.declared.event.RecvEvent.TheVariants as events
use Rattle.grpc_core.specs.declared.message.SplitFault.{SplitFault}
use Rattle.grpc_core.specs.declared.message.SplitFault.TheVariants as faults
use Rattle.grpc_core.specs.declared.method.Method.{Method}
use Rattle.grpc_core.specs.declared.method.Method.TheVariants as methods
use Rattle.grpc_core.specs.declared.head.CallHead.{CallHead}
use Rattle.grpc_core.specs.declared.head.CallHead.TheVariants as heads
use Rattle.grpc_core.specs.Messages.{Cut, cut}
use Rattle.grpc_core.specs.Heads.{head_of}
use Rattle.grpc_requests.specs.declared.request.Asked.{Asked}
use Rattle.grpc_requests.specs.declared.request.Asked.TheVariants as asks
use Rattle.grpc_requests.specs.declared.request.Later.TheVariants as later

-- the headers that opened the stream, if their list wasn't too long, the octets of its DATA so far, and whether the peer
-- has ended the stream
pub record Call : Type 0 where
  pub headers : Option (List Header)
  pub octets : List ℕ
  pub ended : Bool

abbrev pub with_piece : List ℕ → Bool → Call → Call
with_piece octets ended call =
    record call { octets = call.octets ++ octets; ended = call.ended || ended }

-- the stream of an event of a call
abbrev pub stream_of : RecvEvent → Option ℕ
stream_of (events.Call stream headers ended) = Some stream
stream_of (events.TooLong stream) = Some stream
stream_of (events.Piece stream octets size ended) = Some stream
stream_of (events.Trailers stream) = Some stream
stream_of (events.Reset stream) = Some stream
stream_of (events.StreamFault stream code) = Some stream
stream_of _ = None

-- The call of a stream after an event on it. Headers open it, and a reset in either direction ends it.
abbrev pub call_after : RecvEvent → Option Call → Option Call
call_after (events.Call stream headers ended) call =
    Some (record { headers = Some headers; octets = []; ended = ended })
call_after (events.TooLong stream) call =
    Some (record { headers = None; octets = []; ended = false })
call_after (events.Piece stream octets size ended) call = option_map (with_piece octets ended) call
call_after (events.Trailers stream) call = option_map (with_piece [] true) call
call_after (events.Reset stream) call = None
call_after (events.StreamFault stream code) call = None
call_after _ call = call

abbrev pub refusal_of : SplitFault → Refusal
refusal_of faults.Compressed = refusals.Compressed
refusal_of faults.TooLarge = refusals.TooLarge
refusal_of faults.NoMemory = refusals.NoMemory

-- ---- a unary call

-- it has just one message
abbrev pub one_message : Method → List (List ℕ) → List ℕ → Asked
one_message method (message ∷ []) [] = asks.Call method message
one_message method _ _ = asks.Refused refusals.BadMessage

-- what it asks when it is over, for a fault if there is one
abbrev pub unary_end : Method → List (List ℕ) → List ℕ → Option Refusal → Asked
unary_end method messages rest (Some refusal) = asks.Refused refusal
unary_end method messages rest None = one_message method messages rest

-- ---- a Subscribe call (gNMI 3.5.1.1)

abbrev pub has_message : List (List ℕ) → Bool
has_message [] = false
has_message (message ∷ messages) = true

-- what it asks with these messages, of which the first one begins it, unless it has begun
abbrev pub further : Bool → List (List ℕ) → List Asked
further begun [] = []
further false (message ∷ messages) = asks.Subscribe message ∷ further true messages
further true (message ∷ messages) = asks.Later (later.Message message) ∷ further true messages

-- What its end asks, for a fault if there is one. A call that hasn't begun is refused.
abbrev pub subscribe_end : Bool → Option Refusal → Asked
subscribe_end true (Some refusal) = asks.Later (later.Fault refusal)
subscribe_end true None = asks.Later later.End
subscribe_end false (Some refusal) = asks.Refused refusal
subscribe_end false None = asks.Refused refusals.BadSubscribe

-- ---- a call with these messages

-- while it goes on,
abbrev pub asks_open : Method → Bool → List (List ℕ) → List Asked
asks_open methods.Capabilities begun messages = []
asks_open methods.Get begun messages = []
asks_open methods.Set begun messages = []
asks_open methods.Subscribe begun messages = further begun messages

-- and when it is over
abbrev pub asks_over : Method → Bool → List (List ℕ) → List ℕ → Option Refusal → List Asked
asks_over methods.Capabilities begun messages rest fault =
    unary_end methods.Capabilities messages rest fault ∷ []
asks_over methods.Get begun messages rest fault = unary_end methods.Get messages rest fault ∷ []
asks_over methods.Set begun messages rest fault = unary_end methods.Set messages rest fault ∷ []
asks_over methods.Subscribe begun messages rest fault =
    further begun messages ++ subscribe_end (begun || has_message messages) fault ∷ []

-- It is over with a fault of its messages, or when the peer has ended the stream.
abbrev pub asks_of : Method → Bool → List (List ℕ) → List ℕ → Option SplitFault → Bool → List Asked
asks_of method begun messages rest (Some fault) ended =
    asks_over method begun messages rest (Some (refusal_of fault))
asks_of method begun messages rest None true = asks_over method begun messages rest None
asks_of method begun messages rest None false = asks_open method begun messages

-- ---- any call

abbrev pub asks_in : Method → Cut → Bool → List Asked
asks_in method c ended = asks_of method false c.messages c.rest c.fault ended

abbrev pub asks_at : CallHead → List ℕ → Bool → List Asked
asks_at (heads.Call method) octets ended = asks_in method (cut octets) ended
asks_at (heads.Http status) octets ended = asks.Http status ∷ []
asks_at (heads.Refused refusal) octets ended = asks.Refused refusal ∷ []

abbrev pub asks_with : Option (List Header) → List ℕ → Bool → List Asked
asks_with None octets ended = asks.Refused refusals.TooLarge ∷ []
asks_with (Some headers) octets ended = asks_at (head_of headers) octets ended

-- what a call asks with what was heard of it
abbrev pub asks_by : Option Call → List Asked
asks_by None = []
asks_by (Some call) = asks_with call.headers call.octets call.ended

-- ---- its end

abbrev pub ends_with : Option SplitFault → Bool → Bool
ends_with (Some fault) ended = true
ends_with None ended = ended

abbrev pub is_over_at : CallHead → List ℕ → Bool → Bool
is_over_at (heads.Call method) octets ended = ends_with (cut octets).fault ended
is_over_at (heads.Http status) octets ended = true
is_over_at (heads.Refused refusal) octets ended = true

abbrev pub is_over_with : Option (List Header) → List ℕ → Bool → Bool
is_over_with None octets ended = true
is_over_with (Some headers) octets ended = is_over_at (head_of headers) octets ended

-- A call is over when it asks for nothing more, whatever is heard.
abbrev pub is_over : Call → Bool
is_over call = is_over_with call.headers call.octets call.ended
