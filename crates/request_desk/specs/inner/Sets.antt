-- The two halves of a Set before it is judged: what it asks, and the front of its reply.
use Rattle.std.specs.Prelude.{ℕ, List, Option, Some, None, Result, Ok, Err, if◌then◌else◌}
use Rattle.base_kinds.specs.declared.entry.Ask.{Ask}
use Rattle.base_kinds.specs.declared.refusal.Refusal.{Refusal}
use Rattle.base_kinds.specs.declared.refusal.Refusal.TheVariants.{BadMessage, TooLarge}
use Rattle.base_kinds.specs.Schema.{SchemaNode}
use Rattle.gnmi_set_msg.specs.declared.request.SetRequest.{SetRequest}
use Rattle.gnmi_set_msg.specs.Asks.{ask_of}
use Rattle.gnmi_set_msg.specs.Replies.{reply_message}
use Rattle.set_request.specs.Resolution.{resolved}
use Rattle.request_desk.specs.Limits.{is_too_large}
use Rattle.request_desk.specs.Sets.{longest_reply}

-- what is asked, or why the request is refused by itself
abbrev pub set_ask : List SchemaNode → Option SetRequest → Result Ask Refusal
set_ask schema None = Err BadMessage
set_ask schema (Some request) = resolved schema (ask_of request)

-- the reply without its timestamp
abbrev pub reply_front : Option SetRequest → Result (List ℕ) Refusal
reply_front None = Err BadMessage
reply_front (Some request) =
    if is_too_large (longest_reply request) then Err TooLarge else Ok (reply_message 0 request)
