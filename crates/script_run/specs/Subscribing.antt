-- What the lines of subscriptions do and answer, by what a look at the book shows, where they take one (gNMI 3.5.1.5).
use Rattle.std.specs.Prelude.{ℕ, List, [], Bool, false, is_some, Option, Some, None, Result, Ok, Err, if◌then◌else◌}
use Rattle.base_kinds.specs.declared.path.Elem.{Elem}
use Rattle.base_kinds.specs.declared.entry.View.{View}
use Rattle.base_kinds.specs.declared.refusal.Refusal.{Refusal}
use Rattle.base_kinds.specs.declared.refusal.Refusal.TheVariants.{BadSubscribe}
use Rattle.base_kinds.specs.declared.request.ListMode.{ListMode}
use Rattle.base_kinds.specs.declared.request.ListMode.TheVariants as modes
use Rattle.base_kinds.specs.declared.request.SubLine.{SubLine}
use Rattle.gnmi_kinds.specs.declared.ask.SubAsk.{SubAsk}
use Rattle.gnmi_kinds.specs.declared.ask.Encoding.TheVariants.{Json}
use Rattle.sub_plan.specs.declared.plan.Plan.{Plan}
use Rattle.sub_plan.specs.Groups.{patterns_of}
use Rattle.sub_plan.specs.Plans.{plan_of}
use Rattle.stream_laws.specs.Notes.{note_of}
use Rattle.stream_laws.specs.Streams.{begins_with, stream_after, stream_from, turn_input_of}
use Rattle.script_text.specs.declared.line.Line.{Line}
use Rattle.script_text.specs.declared.line.Line.TheVariants as lines
use Rattle.script_run.specs.CallViews.{StreamCall, PollCall, stream_patterns, poll_patterns}
use Rattle.script_run.specs.OpenCalls.{call_named, without_call, with_call}
use Rattle.script_run.specs.declared.calls.OpenCall.{OpenCall}
use Rattle.script_run.specs.declared.calls.OpenCall.TheVariants as opened
use Rattle.script_run.specs.declared.calls.NamedCall.{NamedCall}
use Rattle.script_run.specs.declared.subscribing.CallReply.{CallReply}
use Rattle.script_run.specs.declared.subscribing.CallReply.TheVariants as replies

-- the list of a Subscribe call with these subscriptions, without a prefix
abbrev pub sub_ask : ListMode → Bool → List SubLine → SubAsk
sub_ask mode only subs = record {
  prefix = record { path = []; origin = []; target = []; old_element = false };
  lines = subs;
  mode = mode;
  updates_only = only;
  encoding = Json;
  unsupported = false;
}

-- what a line leaves of the open calls, and its answer
pub record CallStep : Type 0 where
  pub reply : CallReply
  pub calls : List NamedCall

abbrev pub step_with : CallReply → List NamedCall → CallStep
step_with reply calls = record { reply = reply; calls = calls }

-- ---- `open`

-- A call of mode POLL looks at nothing yet.
abbrev pub planned_look : ListMode → Result Plan Refusal → Option (List (List Elem))
planned_look mode (Err refusal) = None
planned_look modes.Poll (Ok plan) = None
planned_look mode (Ok plan) = Some (patterns_of plan.lines)

abbrev pub open_look : List ℕ → ListMode → Bool → List SubLine → List NamedCall
    → Option (List (List Elem))
open_look name mode only subs calls =
    if is_some (call_named name calls) then None
    else planned_look mode (plan_of (sub_ask mode only subs))

abbrev pub once_reply : Plan → Result View Refusal → CallReply
once_reply plan (Ok view) = replies.Once (begins_with plan.updates_only view)
once_reply plan (Err refusal) = replies.Refused refusal

-- A stream is open once its first notification is made; a call of mode ONCE ends with it and takes no name.
abbrev pub open_by : ℕ → List ℕ → ListMode → Plan → ℕ → Result View Refusal → List NamedCall
    → CallStep
open_by author name modes.Poll plan now looked calls =
    step_with replies.Opened (with_call name
    (opened.Poll (record { author = author; plan = plan })) calls)
open_by author name modes.Stream plan now (Ok view) calls =
    step_with (replies.Began (begins_with plan.updates_only view))
    (with_call name (opened.Stream
    (record { author = author; stream = stream_from plan now view })) calls)
open_by author name modes.Stream plan now (Err refusal) calls =
    step_with (replies.Refused refusal) calls
open_by author name mode plan now looked calls = step_with (once_reply plan looked) calls

abbrev pub open_planned : ℕ → List ℕ → ListMode → Result Plan Refusal → ℕ → Result View Refusal
    → List NamedCall → CallStep
open_planned author name mode (Err refusal) now looked calls =
    step_with (replies.Refused refusal) calls
open_planned author name mode (Ok plan) now looked calls =
    open_by author name mode plan now looked calls

-- the name is looked at first
abbrev pub open_step : ℕ → List ℕ → ListMode → Bool → List SubLine → ℕ → Result View Refusal
    → List NamedCall → CallStep
open_step author name mode only subs now looked calls =
    if is_some (call_named name calls) then step_with replies.Taken calls
    else open_planned author name mode (plan_of (sub_ask mode only subs)) now looked calls

-- ---- `turn`, `poll` and `end`

abbrev pub turn_look : Option OpenCall → Option (List (List Elem))
turn_look (Some (opened.Stream call)) = Some (stream_patterns call)
turn_look _ = None

abbrev pub poll_look : Option OpenCall → Option (List (List Elem))
poll_look (Some (opened.Poll call)) = Some (poll_patterns call)
poll_look _ = None

-- A turn that is refused is none. One without a notification is, and its time goes on.
abbrev pub stream_turn : List ℕ → StreamCall → ℕ → Result View Refusal → List NamedCall → CallStep
stream_turn name call now (Err refusal) calls = step_with (replies.Refused refusal) calls
stream_turn name call now (Ok view) calls =
    step_with (replies.Turned (note_of (turn_input_of call.stream now view) view.stamp))
    (with_call name (opened.Stream (record call { stream = stream_after call.stream now view }))
    (without_call name calls))

abbrev pub turn_step : List ℕ → Option OpenCall → ℕ → Result View Refusal → List NamedCall
    → CallStep
turn_step name None now looked calls = step_with replies.NoStream calls
turn_step name (Some (opened.Poll call)) now looked calls =
    step_with (replies.Refused BadSubscribe) calls
turn_step name (Some (opened.Stream call)) now looked calls = stream_turn name call now looked calls

-- A poll of a stream ends it.
abbrev pub poll_turn : PollCall → Result View Refusal → CallReply
poll_turn call (Err refusal) = replies.Refused refusal
poll_turn call (Ok view) = replies.Began (begins_with call.plan.updates_only view)

abbrev pub poll_step : List ℕ → Option OpenCall → Result View Refusal → List NamedCall → CallStep
poll_step name None looked calls = step_with replies.NoStream calls
poll_step name (Some (opened.Poll call)) looked calls = step_with (poll_turn call looked) calls
poll_step name (Some (opened.Stream call)) looked calls =
    step_with (replies.Refused BadSubscribe) (without_call name calls)

abbrev pub end_step : List ℕ → Option OpenCall → List NamedCall → CallStep
end_step name None calls = step_with replies.NoStream (without_call name calls)
end_step name (Some call) calls = step_with replies.Ended (without_call name calls)

-- ---- lines

-- what a line of subscriptions looks at, where it takes a turn of the book
abbrev pub look_of : Line → List SubLine → List NamedCall → Option (List (List Elem))
look_of (lines.Open author name mode only) subs calls = open_look name mode only subs calls
look_of (lines.Turn name) subs calls = turn_look (call_named name calls)
look_of (lines.Poll name) subs calls = poll_look (call_named name calls)
look_of _ subs calls = None

-- what it answers and leaves, by the reading of the clock and by what the look showed
abbrev pub call_step : Line → List SubLine → ℕ → Result View Refusal → List NamedCall
    → Option CallStep
call_step (lines.Open author name mode only) subs now looked calls =
    Some (open_step author name mode only subs now looked calls)
call_step (lines.Turn name) subs now looked calls =
    Some (turn_step name (call_named name calls) now looked calls)
call_step (lines.Poll name) subs now looked calls =
    Some (poll_step name (call_named name calls) looked calls)
call_step (lines.End name) subs now looked calls =
    Some (end_step name (call_named name calls) calls)
call_step _ subs now looked calls = None

abbrev pub calls_left : Option CallStep → List NamedCall → List NamedCall
calls_left None calls = calls
calls_left (Some step) calls = step.calls
