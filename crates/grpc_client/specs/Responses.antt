-- What a response says (gRPC over HTTP/2, "Responses").
use Rattle.std.specs.Prelude.{ℕ, ◌+◌, ◌-◌, ◌*◌, List, [], ◌∷◌, ◌++◌, Bool, ◌&&◌, ◌==◌, nat_lt, nat_le, length, codes, bytes_eq, Option, Some, None, Result, Ok, Err, if◌then◌else◌}
use Rattle.plain_texts.specs.Numbers.{natural_of}
use Rattle.hpack_block.specs.declared.header.Header.{Header}
use Rattle.grpc_core.specs.Heads.{value_of, is_value}
use Rattle.grpc_core.specs.Messages.{largest_message}
use Rattle.h2_streams.specs.Payloads.{number}
use Rattle.h2_responses.specs.declared.event.ServerEvent.{ServerEvent}
use Rattle.h2_responses.specs.declared.event.ServerEvent.TheVariants as event
use Rattle.grpc_client.specs.declared.fault.CallFault.{CallFault}
use Rattle.grpc_client.specs.declared.fault.CallFault.TheVariants as fault
use Rattle.grpc_client.specs.declared.heard.Heard.{Heard}

abbrev pub nothing_heard : Heard
nothing_heard = record { head = None; octets = []; trailers = None; reset = None }

-- Events of a response are those of the one stream that isn't over. DATA of another stream has no octets.
abbrev pub heard_with : ServerEvent → Heard → Heard
heard_with (event.Head on headers ended) h = record h { head = Some headers }
heard_with (event.Piece on octets size ended) h = record h { octets = h.octets ++ octets }
heard_with (event.Trailers on headers) h = record h { trailers = Some headers }
heard_with (event.Reset on code) h = record h { reset = Some code }
heard_with _ h = h

-- ---- the one message of a unary call: not compressed, its length in four octets, and the message

abbrev pub is_message : ℕ → ℕ → ℕ → Bool
is_message flag size there = (flag == 0) && (size == there) && nat_le there largest_message

abbrev pub message_in : List ℕ → Result (List ℕ) CallFault
message_in (flag ∷ a ∷ b ∷ c ∷ d ∷ message) =
    if is_message flag (number 0 (a ∷ b ∷ c ∷ d ∷ [])) (length message) then Ok message
    else Err fault.BadReply
message_in _ = Err fault.BadReply

-- ---- by the status of gRPC

abbrev pub by_code : Option ℕ → List ℕ → Result (List ℕ) CallFault
by_code None octets = Err fault.NoStatus
by_code (Some code) octets =
    if code == 0 then message_in octets
    else if nat_lt 4294967295 code then Err fault.NoStatus
    else Err (fault.Refused code)

abbrev pub natural_in : Option (List ℕ) → Option ℕ
natural_in None = None
natural_in (Some value) = natural_of value

abbrev pub with_trailers : List Header → List ℕ → Result (List ℕ) CallFault
with_trailers headers octets = by_code (natural_in (value_of (codes "grpc-status") headers)) octets

-- where the response has no trailers, its head has the status ("Trailers-Only")
abbrev pub or_head : Option (List Header) → List Header → List Header
or_head None head = head
or_head (Some trailers) head = trailers

-- ---- by the status of HTTP

abbrev pub is_digit : ℕ → Bool
is_digit octet = nat_le 48 octet && nat_le octet 57

abbrev pub status_of_digits : ℕ → ℕ → ℕ → ℕ
status_of_digits a b c =
    if is_digit a && is_digit b && is_digit c
    then (a - 48) * 100 + (b - 48) * 10 + (c - 48) else 0

-- three digits, or 0
abbrev pub http_status : Option (List ℕ) → ℕ
http_status (Some (a ∷ b ∷ c ∷ [])) = status_of_digits a b c
http_status _ = 0

abbrev pub by_head : List Header → Heard → Result (List ℕ) CallFault
by_head head h =
    if is_value (codes "200") (value_of (codes ":status") head)
    then with_trailers (or_head h.trailers head) h.octets
    else Err (fault.Http (http_status (value_of (codes ":status") head)))

abbrev pub by_heard : Option ℕ → Option (List Header) → Heard → Result (List ℕ) CallFault
by_heard (Some code) head h = Err (fault.Protocol code)
by_heard None None h = Err fault.NoStatus
by_heard None (Some head) h = by_head head h

-- what a call is answered whose response is over
abbrev pub answer_of : Heard → Result (List ℕ) CallFault
answer_of h = by_heard h.reset h.head h
