-- That the streams of a script are streams over its one history (gNMI 3.5.1.5), however it goes on and whatever fails and stops.
use Rattle.std.specs.Prelude.{◌≡◌, ℕ, List, [], ◌∷◌, ◌++◌, length, Bool, Option, Some, Ok}
use Rattle.std.specs.List.{AllByRecursion}
use Rattle.base_kinds.specs.declared.entry.Entry.{Entry}
use Rattle.base_kinds.specs.declared.entry.Limits.{Limits}
use Rattle.base_kinds.specs.declared.entry.View.{View}
use Rattle.base_kinds.specs.declared.request.ListMode.{ListMode}
use Rattle.base_kinds.specs.declared.request.Note.{Note}
use Rattle.base_kinds.specs.Schema.{SchemaNode}
use Rattle.gnmi_kinds.specs.declared.reply.SubReply.{SubReply}
use Rattle.gnmi_kinds.specs.declared.reply.SubReply.TheVariants.{Sync}
use Rattle.sub_plan.specs.declared.plan.Plan.{Plan}
use Rattle.sub_plan.specs.Plans.{plan_of}
use Rattle.stream_laws.specs.Follows.{IsStreamAt, first_moment, moment_of}
use Rattle.stream_laws.specs.Runs.{Moment, note_messages, view_at}
use Rattle.stream_laws.specs.Streams.{StreamView, begins_with, stream_after, stream_from}
use Rattle.script_text.specs.declared.line.Line.{Line}
use Rattle.script_text.specs.declared.line.Line.TheVariants as lines
use Rattle.script_run.specs.CallViews.{PollCall, StreamCall}
use Rattle.script_run.specs.OpenCalls.{call_named, with_call, without_call}
use Rattle.script_run.specs.ScriptStates.{ScriptState, new_state, line_step, state_after}
use Rattle.script_run.specs.Subscribing.{step_with, sub_ask}
use Rattle.script_run.specs.declared.subscribing.CallReply.TheVariants as replies
use Rattle.script_run.specs.declared.calls.OpenCall.{OpenCall}
use Rattle.script_run.specs.declared.calls.OpenCall.TheVariants as opened
use Rattle.script_run.specs.declared.calls.NamedCall.{NamedCall}
use Rattle.script_run.specs.laws.ScriptLaws.{LeadTo}

-- The stream is as the last turn of a run over this history left it: its first turn, and the later ones, are moments of the history
-- of which neither times nor positions fall.
pub record IsRunOver (h : List Entry) (stream : StreamView) : Type 0 where
  pub plan : Plan
  pub first : Moment
  pub later : List Moment
  pub messages : List SubReply
  pub at : IsStreamAt plan first later messages h stream

abbrev pub IsCallOver : List Entry → OpenCall → Type 0
IsCallOver h (opened.Stream call) = IsRunOver h call.stream
IsCallOver h (opened.Poll call) = Unit {0}

abbrev pub AreOver : List Entry → List NamedCall → Type 0
AreOver h calls = AllByRecursion (λ (call : NamedCall). IsCallOver h call.call) calls

-- so each open stream is, wherever lines lead to
abbrev pub StreamsAreRuns : Type 0
StreamsAreRuns =
    (schema : List SchemaNode) (limits : Limits) (lines : List Line) (left : ScriptState) →
    LeadTo lines (new_state schema limits) left → AreOver left.history left.calls

-- ---- what is printed

abbrev pub history_behind : Line → ScriptState → List Entry
history_behind line state = (state_after line state).history

-- what the plan's lines show of the history as it stands
abbrev pub view_now : Plan → List Entry → View
view_now plan h = view_at plan.lines h (length h)

-- the first turn of a stream of the plan, at this reading of the clock and at the end of this history: what it says is the
-- notification, where it makes one, and a sync
pub record Begins (plan : Plan) (h : List Entry) (now : ℕ) (note : Option Note)
    (stream : StreamView) : Type 0 where
  pub noted : note ≡ begins_with plan.updates_only (view_now plan h)
  pub begun : stream ≡ stream_from plan now (view_now plan h)
  pub run : IsStreamAt plan (first_moment now (length h)) []
      (note_messages note ++ Sync ∷ []) h stream

-- An `open` that begins a stream makes its plan of the subscriptions that wait, and prints what the stream's first turn says,
-- at the end of the history that the line leaves; the stream is open from then on.
abbrev pub OpensSay : Type 0
OpensSay =
    (author : ℕ) (name : List ℕ) (mode : ListMode) (only : Bool) (state : ScriptState)
    (note : Option Note) (calls : List NamedCall) →
    line_step (lines.Open author name mode only) state
    ≡ Some (step_with (replies.Began note) calls) →
    (plan : Plan) × (stream : StreamView)
    × (plan_of (sub_ask mode only state.subs) ≡ Ok plan)
    × (calls
    ≡ with_call name (opened.Stream (record { author = author; stream = stream })) state.calls)
    × Begins plan (history_behind (lines.Open author name mode only) state) state.reading
    note stream

-- one of mode ONCE prints the same, and no call is open that wasn't
abbrev pub OnceSays : Type 0
OnceSays =
    (author : ℕ) (name : List ℕ) (mode : ListMode) (only : Bool) (state : ScriptState)
    (note : Option Note) (calls : List NamedCall) →
    line_step (lines.Open author name mode only) state
    ≡ Some (step_with (replies.Once note) calls) →
    (plan : Plan) × (stream : StreamView)
    × (plan_of (sub_ask mode only state.subs) ≡ Ok plan) × (calls ≡ state.calls)
    × Begins plan (history_behind (lines.Open author name mode only) state) state.reading
    note stream

-- and so does a `poll` of a call of mode POLL, by the plan that it was opened with
abbrev pub PollsSay : Type 0
PollsSay =
    (name : List ℕ) (state : ScriptState) (call : PollCall) (note : Option Note)
    (calls : List NamedCall) →
    call_named name state.calls ≡ Some (opened.Poll call) →
    line_step (lines.Poll name) state ≡ Some (step_with (replies.Began note) calls) →
    (stream : StreamView) × (calls ≡ state.calls)
    × Begins call.plan (history_behind (lines.Poll name) state) state.reading note stream

-- A turn that is answered goes on with whatever run the stream was of: by the moment of its reading of the clock at the end of
-- the history that the line leaves, and by the notification that it prints, where it does.
abbrev pub TurnsSay : Type 0
TurnsSay =
    (name : List ℕ) (state : ScriptState) (call : StreamCall) (note : Option Note)
    (calls : List NamedCall) (plan : Plan) (first : Moment) (later : List Moment)
    (messages : List SubReply) →
    call_named name state.calls ≡ Some (opened.Stream call) →
    line_step (lines.Turn name) state ≡ Some (step_with (replies.Turned note) calls) →
    IsStreamAt plan first later messages state.history call.stream →
    (next : StreamView)
    × (next ≡ stream_after call.stream state.reading
    (view_now plan (history_behind (lines.Turn name) state)))
    × (calls ≡ with_call name (opened.Stream (record call { stream = next }))
    (without_call name state.calls))
    × IsStreamAt plan first
    (later ++ moment_of call.stream state.reading
    (length (history_behind (lines.Turn name) state)) ∷ [])
    (messages ++ note_messages note) (history_behind (lines.Turn name) state) next

-- What a stream has said stays what a stream of this plan says over the history, with the same moments, whatever lines follow
-- and whatever stops in them: also where a stop has ended it.
abbrev pub RunsAreKept : Type 0
RunsAreKept =
    (script : List Line) (state left : ScriptState) (plan : Plan) (first : Moment)
    (later : List Moment) (messages : List SubReply) (stream : StreamView) →
    LeadTo script state left → IsStreamAt plan first later messages state.history stream →
    IsStreamAt plan first later messages left.history stream
