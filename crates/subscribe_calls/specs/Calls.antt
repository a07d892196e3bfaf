-- A Subscribe call as it is served, and what its turns say (gNMI 3.5.1.4, 3.5.1.5).
use Rattle.std.specs.Prelude.{◌≡◌, ℕ, List, [], ◌++◌, Option, Some, None, map}
use Rattle.base_kinds.specs.declared.entry.Entry.{Entry}
use Rattle.base_kinds.specs.declared.entry.View.{View}
use Rattle.base_kinds.specs.Schema.{SchemaNode}
use Rattle.base_kinds.specs.Events.{view_of}
use Rattle.gnmi_kinds.specs.declared.reply.SubReply.{SubReply}
use Rattle.gnmi_kinds.specs.declared.reply.SubReply.TheVariants as replies
use Rattle.sub_plan.specs.declared.plan.Plan.{Plan}
use Rattle.sub_plan.specs.Groups.{patterns_of}
use Rattle.stream_laws.specs.Runs.{Moment}
use Rattle.stream_laws.specs.Streams.{StreamView, stream_from, stream_after}
use Rattle.stream_laws.specs.Follows.{IsStreamAt, started_messages, messages_at}
use Rattle.gnmi_note_msg.specs.Notifications.{note_octets}
use Rattle.gnmi_sub_msg.specs.Replies.{note_reply, sync_reply}

-- its plan, and its stream, once the first turn was made
pub record CallView : Type 0 where
  pub plan : Plan
  pub stream : Option StreamView

-- the call, before its first turn
abbrev pub new_call : Plan → CallView
new_call plan = record { plan = plan; stream = None }

-- ---- a turn at this reading of the clock, with what the plan's lines show

abbrev pub next_stream : Plan → Option StreamView → ℕ → View → StreamView
next_stream plan None now view = stream_from plan now view
next_stream plan (Some stream) now view = stream_after stream now view

-- The first turn says the state, unless updates alone are asked for, and a sync; a later one a notification where one is due.
abbrev pub next_messages : Plan → Option StreamView → ℕ → View → List SubReply
next_messages plan None now view = started_messages plan view
next_messages plan (Some stream) now view = messages_at stream now view

abbrev pub messages_with : CallView → ℕ → View → List SubReply
messages_with call now view = next_messages call.plan call.stream now view

abbrev pub call_after : CallView → ℕ → View → CallView
call_after call now view =
    record call { stream = Some (next_stream call.plan call.stream now view) }

-- ---- octets

-- a SubscribeResponse, its values written as the plan asks by the schema
abbrev pub reply_octets : List SchemaNode → Plan → SubReply → List ℕ
reply_octets schema plan (replies.Note note) =
    note_reply (note_octets schema plan.encoding plan.target note)
reply_octets schema plan replies.Sync = sync_reply

abbrev pub replies_octets : List SchemaNode → Plan → List SubReply → List (List ℕ)
replies_octets schema plan messages = map (reply_octets schema plan) messages

-- ---- over a history

-- what the plan's lines show of the state that a history comes to
abbrev pub view_in : Plan → List Entry → View
view_in plan h = view_of h (patterns_of plan.lines)

pub record IsRunning (plan : Plan) (messages : List SubReply) (h : List Entry)
    (stream : StreamView) : Type 0 where
  pub first : Moment
  pub later : List Moment
  pub at : IsStreamAt plan first later messages h stream

-- The messages so far are those of a stream over this history, and the call is as its last turn left it; before the first turn
-- there are none.
abbrev pub HaveSaid : Plan → List SubReply → List Entry → Option StreamView → Type 0
HaveSaid plan messages h None = messages ≡ []
HaveSaid plan messages h (Some stream) = IsRunning plan messages h stream

abbrev pub IsCallAt : List SubReply → List Entry → CallView → Type 0
IsCallAt messages h call = HaveSaid call.plan messages h call.stream

-- A turn at the state that the history comes to, which may have gone on, goes on with the call.
abbrev pub CallsGoOn : Type 0
CallsGoOn =
    (messages : List SubReply) (h more : List Entry) (call : CallView) (now : ℕ) →
    IsCallAt messages h call →
    IsCallAt (messages ++ messages_with call now (view_in call.plan (h ++ more))) (h ++ more)
    (call_after call now (view_in call.plan (h ++ more)))

-- Without a turn it is one over every history that goes on from it.
abbrev pub CallsStay : Type 0
CallsStay =
    (messages : List SubReply) (h more : List Entry) (call : CallView) → IsCallAt messages h call →
    IsCallAt messages (h ++ more) call
