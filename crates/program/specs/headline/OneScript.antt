-- THE PROMISE of `script`. Whatever its lines let fail and crash, all its answers are those of one history, whose log it prints.
use Rattle.std.specs.Prelude.{◌≡◌, ◌⊎◌, ℕ, List, [], ◌∷◌, ◌++◌, Bool, true, false, codes, is_some, length, map, Option, Some, None, Ok, Err, if◌then◌else◌}
use Rattle.std.specs.List.{AllByRecursion, flat_map}
use Rattle.std.specs.Str.{bytes_eq}
use Rattle.base_kinds.specs.declared.entry.Entry.{Entry}
use Rattle.base_kinds.specs.declared.entry.Limits.{Limits}
use Rattle.base_kinds.specs.declared.refusal.Refusal.{Refusal}
use Rattle.base_kinds.specs.declared.request.ListMode.{ListMode}
use Rattle.base_kinds.specs.declared.request.Note.{Note}
use Rattle.base_kinds.specs.Events.{OfSet}
use Rattle.base_kinds.specs.History.{IsHistory, world_of}
use Rattle.base_kinds.specs.Schema.{SchemaNode}
use Rattle.base_kinds.specs.Step.{after_expiry}
use Rattle.book_port.specs.Follows.{Turn}
use Rattle.gnmi_kinds.specs.declared.reply.SubReply.{SubReply}
use Rattle.gnmi_kinds.specs.declared.reply.SubReply.TheVariants.{Sync}
use Rattle.log_text.specs.Logs.{log_text}
use Rattle.script_text.specs.declared.line.Line.{Line}
use Rattle.script_text.specs.declared.line.Line.TheVariants as lines
use Rattle.script_text.specs.Lines.{lines_of}
use Rattle.script_run.specs.AnswerLines.{line_answer}
use Rattle.script_run.specs.CallViews.{PollCall}
use Rattle.script_run.specs.OpenCalls.{call_named}
use Rattle.script_run.specs.Restarts.{Takes}
use Rattle.script_run.specs.ScriptOctets.{within_limit}
use Rattle.script_run.specs.ScriptStates.{ScriptState, line_step, new_state, state_after}
use Rattle.script_run.specs.Subscribing.{CallStep, step_with, sub_ask}
use Rattle.script_run.specs.declared.calls.NamedCall.{NamedCall}
use Rattle.script_run.specs.declared.calls.OpenCall.TheVariants as opened
use Rattle.script_run.specs.declared.subscribing.CallReply.{CallReply}
use Rattle.script_run.specs.declared.subscribing.CallReply.TheVariants as replies
use Rattle.script_run.specs.laws.ScriptTexts.{AreScriptLines}
use Rattle.stream_laws.specs.Runs.{note_messages}
use Rattle.sub_plan.specs.declared.plan.Plan.{Plan}
use Rattle.sub_plan.specs.Plans.{plan_of}
use Rattle.program.specs.headline.Marks.{FoldsAtMarks, ReadsState}
use Rattle.program.specs.headline.Terms.{IsPrefix, ChangesNothing}

-- ---- the steps of a script

-- a line: the state that it found, what it printed, and the state that it left, which after a crash is that of the reopened target
pub record LineStep : Type 0 where
  pub line : Line
  pub state : ScriptState
  pub printed : List ℕ
  pub next : ScriptState

-- These steps lead from one state to another. What a line prints is `Takes`: the answer to its event at the history of its state, or
-- that the disk failed; after a crash `stopped` and `reopened` in its place.
abbrev pub Lead : ScriptState → List LineStep → ScriptState → Type 0
Lead first [] last = last ≡ first
Lead first (step ∷ steps) last =
    (step.state ≡ first) × Takes step.line step.state step.printed (Some step.next)
    × Lead step.next steps last

-- the disk stopped in the line's turn, as a `stop` line asked, or ran on
abbrev pub Crashed : LineStep → Type 0
Crashed step = (state_after step.line step.state).arming.stopped ≡ true

abbrev pub RanOn : LineStep → Type 0
RanOn step = (state_after step.line step.state).arming.stopped ≡ false

-- the history that the line left, before a reopening
abbrev pub left_by : LineStep → List Entry
left_by step = (state_after step.line step.state).history

-- the line's turn: the reading of the clock, the history that it found, and the one that it left
abbrev pub turn_of : LineStep → Turn
turn_of step = record {
  reading = step.state.reading;
  found = step.state.history;
  left = left_by step;
}

pub record IsStepOf (h : List Entry) (step : LineStep) : Type 0 where
  pub found : IsPrefix step.state.history h
  pub left : IsPrefix step.next.history h
  -- Where the disk ran on, what the line left is a prefix of h: what a read has shown stays a state of h, and the commit of an `ok` stays
  -- in h, after all that was committed before it.
  pub shown : RanOn step → IsPrefix (left_by step) h
  pub acknowledged : (entry : Entry) → RanOn step →
      line_answer step.line step.state ≡ Some (OfSet (Ok entry)) →
      IsPrefix (after_expiry step.state.history step.state.reading ++ entry ∷ []) h
  -- a refused Set changes nothing
  pub refused : (refusal : Refusal) →
      line_answer step.line step.state ≡ Some (OfSet (Err refusal)) →
      ChangesNothing (turn_of step)
  -- after a crash no trial is open, and no commit in doubt
  pub no_trial : Crashed step →
      ((world_of step.next.history).trial ≡ None) × (step.next.doubt ≡ None)

-- ---- streams

-- the messages that the answer to a line of subscriptions tells
abbrev pub told_by : CallReply → List SubReply
told_by (replies.Began note) = note_messages note ++ Sync ∷ []
told_by (replies.Once note) = note_messages note ++ Sync ∷ []
told_by (replies.Turned note) = note_messages note
told_by reply = []

abbrev pub told_in : Option CallStep → List SubReply
told_in None = []
told_in (Some answered) = told_by answered.reply

-- what a line tells the stream of this name: a `turn` of it does
abbrev pub told_on : List ℕ → Line → Option CallStep → List SubReply
told_on name (lines.Turn other) answered = if bytes_eq other name then told_in answered else []
told_on name line answered = []

abbrev pub told_under : List ℕ → LineStep → List SubReply
told_under name step = told_on name step.line (line_step step.line step.state)

-- a call of this name is open
abbrev pub IsOpen : List ℕ → List NamedCall → Type 0
IsOpen name calls = is_some (call_named name calls) ≡ true

-- the step opens a stream under this name, with this plan (gNMI 3.5.1.5.2), and tells these messages
pub record OpensStream (plan : Plan) (name : List ℕ) (step : LineStep) (told : List SubReply)
    : Type 0 where
  pub author : ℕ
  pub mode : ListMode
  pub only : Bool
  pub line : step.line ≡ lines.Open author name mode only
  pub plan_is : plan_of (sub_ask mode only step.state.subs) ≡ Ok plan
  pub note : Option Note
  pub calls : List NamedCall
  pub began : line_step step.line step.state ≡ Some (step_with (replies.Began note) calls)
  pub told_is : told ≡ note_messages note ++ Sync ∷ []

-- the step is a read of mode ONCE with this plan (gNMI 3.5.1.5.1), and tells these messages
pub record ReadsOnce (plan : Plan) (step : LineStep) (told : List SubReply) : Type 0 where
  pub author : ℕ
  pub name : List ℕ
  pub mode : ListMode
  pub only : Bool
  pub line : step.line ≡ lines.Open author name mode only
  pub plan_is : plan_of (sub_ask mode only step.state.subs) ≡ Ok plan
  pub note : Option Note
  pub calls : List NamedCall
  pub answered : line_step step.line step.state ≡ Some (step_with (replies.Once note) calls)
  pub told_is : told ≡ note_messages note ++ Sync ∷ []

-- the step is a Poll of a call with this plan (gNMI 3.5.1.5.3), and tells these messages
pub record ReadsPoll (plan : Plan) (step : LineStep) (told : List SubReply) : Type 0 where
  pub name : List ℕ
  pub call : PollCall
  pub line : step.line ≡ lines.Poll name
  pub named : call_named name step.state.calls ≡ Some (opened.Poll call)
  pub plan_is : call.plan ≡ plan
  pub note : Option Note
  pub calls : List NamedCall
  pub answered : line_step step.line step.state ≡ Some (step_with (replies.Began note) calls)
  pub told_is : told ≡ note_messages note ++ Sync ∷ []

-- ---- all of it

pub record OneScript (schema : List SchemaNode) (limits : Limits) (script text : List ℕ)
    : Type 0 where
  pub h : List Entry
  -- commits are numbered from 1, and stamps rise, so that a stamp names one state
  pub numbered : IsHistory h
  -- the script's lines, one by one from the empty target on, what they print in their order, and then the log of h
  pub steps : List LineStep
  pub last : ScriptState
  pub are : AreScriptLines (lines_of (within_limit script)) (map (λ step. step.line) steps)
  pub lead : Lead (new_state schema limits) steps last
  pub is_last : last.history ≡ h
  pub prints : text ≡ flat_map (λ step. step.printed) steps ++ (codes "log\n" ++ log_text h)
  pub each : AllByRecursion (IsStepOf h) steps
  -- What an `open` tells, and then the `turn`s of its name as long as it stays open, folds at every mark to states of h, none older than
  -- what the `open` left.
  pub streams : (before after more : List LineStep) (step : LineStep) (plan : Plan)
      (name : List ℕ) (told : List SubReply) →
      steps ≡ before ++ step ∷ (after ++ more) → OpensStream plan name step told →
      AllByRecursion (λ one. IsOpen name one.next.calls) (step ∷ after) →
      FoldsAtMarks plan h (length (left_by step)) (told ++ flat_map (told_under name) after)
  -- a read of mode ONCE, and a Poll, are of the state that the line left
  pub reads : AllByRecursion (λ step. (plan : Plan) (told : List SubReply) → RanOn step →
      ReadsOnce plan step told ⊎ ReadsPoll plan step told →
      ReadsState plan h (length (left_by step)) told) steps
