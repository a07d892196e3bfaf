-- A script's state between two lines, and the event of the commit log that a line is: a script is lines to events, and
-- each event is a turn of a book on a disk that its lines arm to fail.
use Rattle.std.specs.Prelude.{ℕ, ◌<◌, List, [], ◌∷◌, ◌++◌, false, Option, Some, None, Result}
use Rattle.base_kinds.specs.declared.path.Elem.{Elem}
use Rattle.base_kinds.specs.declared.entry.Entry.{Entry}
use Rattle.base_kinds.specs.declared.entry.View.{View}
use Rattle.base_kinds.specs.declared.refusal.Refusal.{Refusal}
use Rattle.base_kinds.specs.declared.request.SubLine.{SubLine}
use Rattle.base_kinds.specs.declared.entry.Limits.{Limits}
use Rattle.base_kinds.specs.declared.request.Action.{Action}
use Rattle.base_kinds.specs.declared.request.Action.TheVariants as actions
use Rattle.base_kinds.specs.Events.{Set, Get, Event}
use Rattle.base_kinds.specs.Rules.{rules_of}
use Rattle.base_kinds.specs.Schema.{SchemaNode}
use Rattle.base_kinds.specs.Step.{Rules}
use Rattle.disk_model.specs.Arming.{Arming, unarmed, with_failure, with_stop}
use Rattle.set_request.specs.Resolution.{resolved}
use Rattle.script_text.specs.declared.line.Line.{Line}
use Rattle.script_text.specs.declared.line.Line.TheVariants as lines
use Rattle.script_run.specs.declared.pending.Pending.{Pending}
use Rattle.script_run.specs.Requests.{nothing_pending, with_operation, unresolved_set}
use Rattle.script_run.specs.Subscribing.{CallStep, look_of, call_step, calls_left}
use Rattle.script_run.specs.Turns.{BookState, book_after, look_event, looked_by}
use Rattle.script_run.specs.declared.calls.NamedCall.{NamedCall}

-- what is judged by, what the clock reads, the pending request, the pending subscriptions and the calls that are open; and of the book its history, what is in doubt, and when
-- its disk is to fail
pub record ScriptState : Type 0 where
  pub schema : List SchemaNode
  pub limits : Limits
  pub reading : ℕ
  pub pending : Pending
  pub subs : List SubLine
  pub calls : List NamedCall
  pub history : List Entry
  pub doubt : Option Entry
  pub arming : Arming

-- before the first line
abbrev pub new_state : List SchemaNode → Limits → ScriptState
new_state schema limits =
    record {
      schema = schema;
      limits = limits;
      reading = 0;
      pending = nothing_pending;
      subs = [];
      calls = [];
      history = [];
      doubt = None;
      arming = unarmed;
    }

abbrev pub rules_in : ScriptState → Rules
rules_in state = rules_of state.schema state.limits

-- the pending request as a Set of this author with this action
abbrev pub set_event : ScriptState → ℕ → Action → Event
set_event state author action = record {
  reading = state.reading;
  author = author;
  request = Set (resolved state.schema (unresolved_set action state.pending));
}

-- the patterns that a line of subscriptions looks at, where it takes a turn of the book
abbrev pub line_look : Line → ScriptState → Option (List (List Elem))
line_look line state = look_of line state.subs state.calls

abbrev pub event_of_look : Option (List (List Elem)) → ScriptState → Option Event
event_of_look None state = None
event_of_look (Some patterns) state = Some (look_event state.reading)

-- The event that a line is: a Set of the pending request, plain or with an action, a read of one pattern, or a look of a
-- subscription. The clock's line, those of operations and of subscriptions, `fail` and `stop` are none.
abbrev pub line_event : Line → ScriptState → Option Event
line_event (lines.At reading) state = None
line_event (lines.Add act path value) state = None
line_event (lines.Set author) state = Some (set_event state author actions.Plain)
line_event (lines.Get author pattern) state =
    Some (record { reading = state.reading; author = author; request = Get (pattern ∷ []) })
line_event (lines.Trial author id span) state =
    Some (set_event state author (actions.Trial id span))
line_event (lines.Confirm author id) state = Some (set_event state author (actions.Confirm id))
line_event (lines.Cancel author id) state = Some (set_event state author (actions.Cancel id))
line_event (lines.Extend author id span) state =
    Some (set_event state author (actions.Extend id span))
line_event (lines.Sub line) state = None
line_event (lines.Open author name mode only) state =
    event_of_look (line_look (lines.Open author name mode only) state) state
line_event (lines.Turn name) state = event_of_look (line_look (lines.Turn name) state) state
line_event (lines.Poll name) state = event_of_look (line_look (lines.Poll name) state) state
line_event (lines.End name) state = None
line_event (lines.Stop calls fill) state = None
line_event (lines.Fail calls) state = None

-- author 0 is the target itself, and neither sets nor reads
abbrev pub HasFitAuthor : Line → Type 0
HasFitAuthor (lines.Set author) = 0 < author
HasFitAuthor (lines.Get author pattern) = 0 < author
HasFitAuthor (lines.Trial author id span) = 0 < author
HasFitAuthor (lines.Confirm author id) = 0 < author
HasFitAuthor (lines.Cancel author id) = 0 < author
HasFitAuthor (lines.Extend author id span) = 0 < author
HasFitAuthor (lines.Open author name mode only) = 0 < author
HasFitAuthor _ = Unit {0}

-- the clock is set by its line alone
abbrev pub reading_after : Line → ℕ → ℕ
reading_after (lines.At reading) old = reading
reading_after _ old = old

-- a line of an operation adds it to the pending request, and a Set spends that, whatever its action, also where it is
-- refused
abbrev pub pending_after : Line → Pending → Pending
pending_after (lines.Add act path value) pending = with_operation act path value pending
pending_after (lines.Set author) pending = nothing_pending
pending_after (lines.Trial author id span) pending = nothing_pending
pending_after (lines.Confirm author id) pending = nothing_pending
pending_after (lines.Cancel author id) pending = nothing_pending
pending_after (lines.Extend author id span) pending = nothing_pending
pending_after _ pending = pending

-- a line of a subscription adds it to those that wait for a call, and `open` spends them, also where it is refused
abbrev pub subs_after : Line → List SubLine → List SubLine
subs_after (lines.Sub sub) subs = subs ++ sub ∷ []
subs_after (lines.Open author name mode only) subs = []
subs_after _ subs = subs

-- `fail` arms the disk to fail in the call after so many, counted once all failures have hit that wait already, and
-- `stop` to stop in it, and to leave this fill
abbrev pub arming_with : Line → Arming → Arming
arming_with (lines.Fail calls) arming = with_failure calls arming
arming_with (lines.Stop calls fill) arming = with_stop calls fill arming
arming_with _ arming = arming

-- the book between two lines
abbrev pub book_in : ScriptState → BookState
book_in state =
    record { history = state.history; doubt = state.doubt; arming = state.arming; failed = false }

abbrev pub book_behind : Option Event → ScriptState → BookState
book_behind None state = book_in state
book_behind (Some event) state = book_after (rules_in state) event (book_in state)

-- what a look shows, and what a line of subscriptions answers and leaves by that
abbrev pub look_answer : Line → ScriptState → Result View Refusal
look_answer line state =
    looked_by (book_behind (line_event line state) state).failed state.history state.reading
    (line_look line state)

abbrev pub line_step : Line → ScriptState → Option CallStep
line_step line state = call_step line state.subs state.reading (look_answer line state) state.calls

-- The state behind a line's turn. Where the disk has stopped in it, the book is opened again (Restarts.antt).
unfoldable pub state_after : Line → ScriptState → ScriptState
state_after line state = let left = book_behind (line_event line state) state in
    record {
      schema = state.schema;
      limits = state.limits;
      reading = reading_after line state.reading;
      pending = pending_after line state.pending;
      subs = subs_after line state.subs;
      calls = calls_left (line_step line state) state.calls;
      history = left.history;
      doubt = left.doubt;
      arming = arming_with line left.arming;
    }
