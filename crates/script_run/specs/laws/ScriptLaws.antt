-- What holds of every script.
use Rattle.std.specs.Prelude.{◌≡◌, ◌≢◌, ◌⊎◌, ℕ, List, [], ◌∷◌, ◌++◌, Bool, true, false, Option, Some, None, Ok, Err}
use Rattle.std.specs.List.{AllByRecursion}
use Rattle.base_kinds.specs.declared.entry.Ask.{Ask}
use Rattle.base_kinds.specs.declared.entry.Entry.{Entry}
use Rattle.base_kinds.specs.declared.entry.Limits.{Limits}
use Rattle.base_kinds.specs.declared.refusal.Refusal.{Refusal}
use Rattle.base_kinds.specs.declared.refusal.Refusal.TheVariants.{DiskFault}
use Rattle.base_kinds.specs.Bases.{HasSoundTrees}
use Rattle.base_kinds.specs.Events.{Set, Get, Event, Answer, OfSet, OfGet, history_after_all}
use Rattle.base_kinds.specs.History.{IsHistory, world_of}
use Rattle.base_kinds.specs.Legal.{IsLegal}
use Rattle.base_kinds.specs.Rules.{rules_of}
use Rattle.base_kinds.specs.Schema.{SchemaNode}
use Rattle.base_kinds.specs.Step.{after_expiry}
use Rattle.disk_model.specs.Arming.{Arming, unarmed}
use Rattle.script_text.specs.declared.line.Line.{Line}
use Rattle.script_text.specs.declared.line.Line.TheVariants as lines
use Rattle.script_text.specs.Grammar.{IsLine}
use Rattle.script_run.specs.AnswerLines.{line_answer}
use Rattle.script_run.specs.ScriptStates.{ScriptState, new_state, rules_in, HasFitAuthor, line_event, book_behind, state_after}
use Rattle.script_text.specs.Lines.{lines_of}
use Rattle.script_run.specs.Restarts.{Takes}
use Rattle.script_run.specs.ScriptOctets.{within_limit}
use Rattle.script_run.specs.Scripts.{RunsScript}
use Rattle.script_run.specs.declared.run.ScriptEnd.{ScriptEnd}

-- the state behind these lines, where the disk stops in none of them
abbrev pub state_behind : List Line → ScriptState → ScriptState
state_behind [] state = state
state_behind (line ∷ lines) state = state_behind lines (state_after line state)

-- the lines are taken, and lead to this state
abbrev pub LeadTo : List Line → ScriptState → ScriptState → Type 0
LeadTo [] state left = left ≡ state
LeadTo (line ∷ lines) state left =
    (printed : List ℕ) × (next : ScriptState) × Takes line state printed (Some next)
    × LeadTo lines next left

-- ---- without `stop` lines

abbrev pub LetsRun : Line → Type 0
LetsRun (lines.Stop calls fill) = ⊥
LetsRun _ = Unit {0}

abbrev pub LetRun : List Line → Type 0
LetRun = AllByRecursion LetsRun

-- the disk hasn't stopped, and isn't to stop
pub record NeverStops (arming : Arming) : Type 0 where
  pub stops : arming.stops ≡ []
  pub stopped : arming.stopped ≡ false

-- where no line lets the disk stop, that state is the one behind the turns of the lines
abbrev pub LeadToOne : Type 0
LeadToOne =
    (lines : List Line) (state left : ScriptState) → LetRun lines → NeverStops state.arming →
    LeadTo lines state left → left ≡ state_behind lines state

-- ---- without `fail` and `stop` lines

abbrev pub LetsPass : Line → Type 0
LetsPass (lines.Fail calls) = ⊥
LetsPass (lines.Stop calls fill) = ⊥
LetsPass _ = Unit {0}

abbrev pub LetPass : List Line → Type 0
LetPass = AllByRecursion LetsPass

-- nothing is in doubt, and the disk isn't to fail
pub record IsQuiet (state : ScriptState) : Type 0 where
  pub doubt : state.doubt ≡ None
  pub arming : state.arming ≡ unarmed

abbrev pub with_event : Option Event → List Event → List Event
with_event None events = events
with_event (Some event) events = event ∷ events

-- the events that lines are
abbrev pub script_events : List Line → ScriptState → List Event
script_events [] state = []
script_events (line ∷ lines) state =
    with_event (line_event line state) (script_events lines (state_after line state))

-- the history behind such lines is that behind their events
abbrev pub MakesEvents : Type 0
MakesEvents =
    (lines : List Line) (state : ScriptState) → LetPass lines → IsQuiet state →
    (state_behind lines state).history ≡
    history_after_all (rules_in state) state.history (script_events lines state)

-- ---- with them

-- the event of the clock alone: a read of nothing
abbrev pub clock_event : Event → Event
clock_event event = record { reading = event.reading; author = event.author; request = Get [] }

-- an event is done in front of others, or where a call of the disk failed in its turn, that of the clock alone, or none
abbrev pub IsDone : Option Event → Bool → List Event → List Event → Type 0
IsDone None failed others done = done ≡ others
IsDone (Some event) false others done = done ≡ event ∷ others
IsDone (Some event) true others done = (done ≡ others) ⊎ (done ≡ clock_event event ∷ others)

-- the events that lines have done
abbrev pub AreDone : List Line → ScriptState → List Event → Type 0
AreDone [] state done = done ≡ []
AreDone (line ∷ lines) state done = let event = line_event line state in
    (others : List Event) × IsDone event (book_behind event state).failed others done
    × AreDone lines (state_after line state) others

-- whatever waits for the disk, the history behind lines is that behind the events that they have done
abbrev pub MakesDoneEvents : Type 0
MakesDoneEvents =
    (lines : List Line) (state : ScriptState) → (done : List Event) × AreDone lines state done
    × ((state_behind lines state).history ≡ history_after_all (rules_in state) state.history done)

-- whatever the lines are, the entries that they make are numbered from 1, and their stamps rise
abbrev pub MakesHistories : Type 0
MakesHistories =
    (schema : List SchemaNode) (limits : Limits) (lines : List Line) →
    IsHistory (state_behind lines (new_state schema limits)).history

-- each line that makes or reads something has an author, as every line that is read from octets
abbrev pub HaveFitAuthors : List Line → Type 0
HaveFitAuthors = AllByRecursion HasFitAuthor

-- the history of such lines is one that a target may come to
abbrev pub MakesLegalHistories : Type 0
MakesLegalHistories =
    (schema : List SchemaNode) (limits : Limits) (lines : List Line) → HaveFitAuthors lines →
    IsLegal (rules_of schema limits) [] (state_behind lines (new_state schema limits)).history

-- and the tree that it stands for is valid under the schema and small enough
abbrev pub MakesSoundTrees : Type 0
MakesSoundTrees =
    (schema : List SchemaNode) (limits : Limits) (lines : List Line) → HaveFitAuthors lines →
    HasSoundTrees schema (world_of (state_behind lines (new_state schema limits)).history)

-- ---- one text

-- the octets are no line that lets the disk stop
abbrev pub HasNoStop : List ℕ → Type 0
HasNoStop octets = (line : Line) → IsLine octets line → LetsRun line

abbrev pub HaveNoStops : List ℕ → Type 0
HaveNoStops script = AllByRecursion HasNoStop (lines_of (within_limit script))

-- Under a schema and limits a script prints one text, where no line lets the disk stop: what a stop leaves may be one of two
-- histories.
abbrev pub PrintsOne : Type 0
PrintsOne =
    (schema : List SchemaNode) (limits : Limits) (script text other : List ℕ)
    (ending another : ScriptEnd) →
    HaveNoStops script → RunsScript schema limits script text ending →
    RunsScript schema limits script other another → (text ≡ other) × (ending ≡ another)

-- ---- what an answer says of the history

-- The history that a line leaves which is answered so: with the entry of an accepted Set, behind the event of the clock,
-- and else with that event at most.
abbrev pub LeavesBy : List Entry → ℕ → Option Answer → List Entry → Type 0
LeavesBy h reading (Some (OfSet (Ok entry))) left = left ≡ after_expiry h reading ++ entry ∷ []
LeavesBy h reading (Some (OfSet (Err refusal))) left = (left ≡ h) ⊎ (left ≡ after_expiry h reading)
LeavesBy h reading (Some (OfGet view)) left = (left ≡ h) ⊎ (left ≡ after_expiry h reading)
LeavesBy h reading None left = left ≡ h

abbrev pub AnswersTell : Type 0
AnswersTell =
    (line : Line) (state : ScriptState) →
    LeavesBy state.history state.reading (line_answer line state) (state_after line state).history

-- an entry that was answered with `ok` stands in the history from then on, behind what stood before it
abbrev pub AcceptedStay : Type 0
AcceptedStay =
    (line : Line) (more : List Line) (state : ScriptState) (entry : Entry) →
    line_answer line state ≡ Some (OfSet (Ok entry)) →
    (later : List Entry) × ((state_behind more (state_after line state)).history ≡
    (after_expiry state.history state.reading ++ entry ∷ []) ++ later)

-- a Set that is refused over the history, and for no fault of the disk, leaves that as it was, but for the event of the clock
abbrev pub RefusedChangesNothing : Type 0
RefusedChangesNothing =
    (line : Line) (state : ScriptState) (event : Event) (ask : Ask) (refusal : Refusal) →
    line_event line state ≡ Some event → event.request ≡ Set (Ok ask) →
    line_answer line state ≡ Some (OfSet (Err refusal)) → refusal ≢ DiskFault →
    (state_after line state).history ≡ after_expiry state.history state.reading

-- and one whose request is refused by itself leaves out even that event, and calls nothing of the disk
abbrev pub BadRequestsChangeNothing : Type 0
BadRequestsChangeNothing =
    (line : Line) (state : ScriptState) (event : Event) (refusal : Refusal) →
    line_event line state ≡ Some event → event.request ≡ Set (Err refusal) →
    ((state_after line state).history ≡ state.history)
    × ((state_after line state).doubt ≡ state.doubt)
    × ((state_after line state).arming ≡ state.arming)
