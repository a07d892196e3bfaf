-- What a stop leaves of a script's history, whatever the lines are, and that what was answered stays.
use Rattle.std.specs.Prelude.{◌≡◌, ◌⊎◌, ℕ, List, [], ◌∷◌, ◌++◌, true, false, Option, Some, None, Ok}
use Rattle.base_kinds.specs.declared.path.Elem.{Elem}
use Rattle.base_kinds.specs.declared.entry.Entry.{Entry}
use Rattle.base_kinds.specs.declared.entry.View.{View}
use Rattle.base_kinds.specs.Events.{Event, OfSet, OfGet, history_after, view_of}
use Rattle.base_kinds.specs.History.{world_of}
use Rattle.base_kinds.specs.Step.{after_expiry}
use Rattle.commit_journal.specs.Images.{IsOneOf, histories_or}
use Rattle.book_core.specs.Calls.{expiry_entry}
use Rattle.book_port.specs.Opened.{reopened}
use Rattle.script_text.specs.declared.line.Line.{Line}
use Rattle.script_run.specs.AnswerLines.{line_answer}
use Rattle.script_run.specs.Restarts.{Takes}
use Rattle.script_run.specs.ScriptStates.{ScriptState, rules_in, line_event, book_behind, state_after}
use Rattle.script_run.specs.Turns.{event_entry, takes_turn}
use Rattle.script_run.specs.laws.ScriptLaws.{LeadTo}

-- a line in whose turn the disk has stopped, and behind which a book was opened
pub record IsReopened (line : Line) (state next : ScriptState) : Type 0 where
  pub printed : List ℕ
  pub running : state.arming.stopped ≡ false
  pub stopped : (state_after line state).arming.stopped ≡ true
  pub takes : Takes line state printed (Some next)

-- the entry of the line's request, where it would be accepted
abbrev pub entry_asked : Option Event → ScriptState → Option Entry
entry_asked None state = None
entry_asked (Some event) state = event_entry (rules_in state) state.history event

-- the entry was in doubt before the line, or was being made in its turn: for a trial that was due, or for the request
abbrev pub IsAttempt : Line → ScriptState → Entry → Type 0
IsAttempt line state attempt =
    (state.doubt ≡ Some attempt) ⊎ (expiry_entry state.history state.reading ≡ Some attempt)
    ⊎ (entry_asked (line_event line state) state ≡ Some attempt)

-- What is reopened is the history, or the history with the one attempt, behind the entry that ends an open trial. The history is
-- the one before the line, or that with the event of the clock.
pub record ReopensHistory (line : Line) (state next : ScriptState) : Type 0 where
  pub left : List Entry
  pub left_is : (left ≡ state.history) ⊎ (left ≡ after_expiry state.history state.reading)
  pub doubt : Option Entry
  pub attempt : (entry : Entry) → doubt ≡ Some entry → IsAttempt line state entry
  pub found : List Entry
  pub is_one : IsOneOf (histories_or left doubt) found
  pub history : next.history ≡ reopened found state.reading

abbrev pub StopsReopen : Type 0
StopsReopen =
    (line : Line) (state next : ScriptState) → IsReopened line state next →
    ReopensHistory line state next

-- no open trial outlives a stop, and nothing is in doubt behind it
abbrev pub StopsEndTrials : Type 0
StopsEndTrials =
    (line : Line) (state next : ScriptState) → IsReopened line state next →
    ((world_of next.history).trial ≡ None) × (next.doubt ≡ None)

-- the disk that is made of what a stop left hasn't stopped
abbrev pub DisksRunOn : Type 0
DisksRunOn =
    (line : Line) (state next : ScriptState) (printed : List ℕ)
    → Takes line state printed (Some next) →
    next.arming.stopped ≡ false

-- a line's answer was printed, and the lines behind it lead to this state
pub record IsAnswered (line : Line) (more : List Line) (state left : ScriptState) : Type 0 where
  pub running : (state_after line state).arming.stopped ≡ false
  pub leads : LeadTo more (state_after line state) left

-- an entry that was answered with `ok` is in the history from then on, behind what stood before it
abbrev pub AcknowledgedStay : Type 0
AcknowledgedStay =
    (line : Line) (more : List Line) (state left : ScriptState) (entry : Entry) →
    line_answer line state ≡ Some (OfSet (Ok entry)) → IsAnswered line more state left →
    (later : List Entry)
    × (left.history ≡ (after_expiry state.history state.reading ++ entry ∷ []) ++ later)

-- what a read has shown is the state of a history that stays, as the front of the later ones
abbrev pub ShownStay : Type 0
ShownStay =
    (line : Line) (more : List Line) (state left : ScriptState) (view : View) →
    line_answer line state ≡ Some (OfGet (Ok view)) → IsAnswered line more state left →
    (patterns : List (List Elem)) × (shown : List Entry) × (later : List Entry)
    × (view ≡ view_of shown patterns) × (left.history ≡ shown ++ later)

-- the next turn in which no call of the disk fails settles a doubt: the attempt doesn't stand
abbrev pub DoubtsAreSettled : Type 0
DoubtsAreSettled =
    (line : Line) (state : ScriptState) (event : Event) → state.arming.stopped ≡ false →
    line_event line state ≡ Some event → takes_turn event.request ≡ true →
    (book_behind (Some event) state).failed ≡ false →
    ((state_after line state).doubt ≡ None)
    × ((state_after line state).history ≡ history_after (rules_in state) state.history event)
