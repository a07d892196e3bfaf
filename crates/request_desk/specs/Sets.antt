-- What a SetRequest asks of a target with this schema, and its reply (gNMI 3.4).
use Rattle.std.specs.Prelude.{ℕ, ◌+◌, List, length, Option, Some, None, Result, Ok, Err, if◌then◌else◌}
use Rattle.base_kinds.specs.declared.entry.Ask.{Ask}
use Rattle.base_kinds.specs.declared.refusal.Refusal.{Refusal}
use Rattle.base_kinds.specs.declared.refusal.Refusal.TheVariants.{BadMessage, TooLarge}
use Rattle.base_kinds.specs.Schema.{SchemaNode}
use Rattle.gnmi_set_msg.specs.declared.request.SetRequest.{SetRequest}
use Rattle.gnmi_set_msg.specs.Requests.{request_of}
use Rattle.gnmi_set_msg.specs.Asks.{ask_of}
use Rattle.gnmi_set_msg.specs.Replies.{reply_message}
use Rattle.set_request.specs.Resolution.{resolved}
use Rattle.request_desk.specs.Limits.{stamp_octets, is_too_large}
use Rattle.request_desk.specs.Tasks.{Task, Says, Changes}

-- the longest reply that the Set may have: without a timestamp, and ten octets for it
abbrev pub longest_reply : SetRequest → ℕ
longest_reply request = length (reply_message 0 request) + stamp_octets

-- A reply that might be too long is refused before anything is changed.
abbrev pub change_task : SetRequest → Result Ask Refusal → Task
change_task request (Err refusal) = Says (Err refusal)
change_task request (Ok ask) =
    if is_too_large (longest_reply request) then Says (Err TooLarge)
    else Changes ask (λ stamp. reply_message stamp request)

-- The refusals of a Set that its request alone causes come in this order: a bad message, those of the request as it is resolved by
-- the schema, and a reply that is too long.
abbrev pub request_task : List SchemaNode → Option SetRequest → Task
request_task schema None = Says (Err BadMessage)
request_task schema (Some request) = change_task request (resolved schema (ask_of request))

abbrev pub set_task : List SchemaNode → List ℕ → Task
set_task schema octets = request_task schema (request_of octets)
