-- What a script keeps whose every line was taken, whatever failed and stopped on the way: what was printed at each line holds of
-- the history at its end, whose log is printed.
use Rattle.std.specs.Prelude.{◌≡◌, ℕ, List, [], ◌∷◌, ◌++◌, true, false, codes, Some, None, Ok}
use Rattle.base_kinds.specs.declared.path.Elem.{Elem}
use Rattle.base_kinds.specs.declared.entry.Entry.{Entry}
use Rattle.base_kinds.specs.declared.entry.Limits.{Limits}
use Rattle.base_kinds.specs.declared.entry.View.{View}
use Rattle.base_kinds.specs.Events.{Event, OfSet, OfGet, history_after, view_of}
use Rattle.base_kinds.specs.History.{world_of}
use Rattle.base_kinds.specs.Schema.{SchemaNode}
use Rattle.base_kinds.specs.Step.{after_expiry}
use Rattle.log_text.specs.Logs.{log_text}
use Rattle.script_text.specs.declared.line.Line.{Line}
use Rattle.script_text.specs.Lines.{lines_of}
use Rattle.script_run.specs.AnswerLines.{line_answer}
use Rattle.script_run.specs.Restarts.{Takes}
use Rattle.script_run.specs.ScriptOctets.{within_limit}
use Rattle.script_run.specs.ScriptStates.{ScriptState, rules_in, new_state, line_event, book_behind, state_after}
use Rattle.script_run.specs.Scripts.{RunsScript}
use Rattle.script_run.specs.Turns.{takes_turn}
use Rattle.script_run.specs.declared.run.ScriptEnd.TheVariants.{Whole}
use Rattle.script_run.specs.laws.CrashLaws.{ReopensHistory}
use Rattle.script_run.specs.laws.ScriptTexts.{AreScriptLines}

-- Of a line in this state, behind which the script went on in the next one and came to the last one. Where the disk didn't stop in
-- it, the entry of an `ok` is in the last history, behind what stood before it, and what a read has shown is the state of a front of
-- that. Where it stopped, what was reopened is the history, or that with the one attempt, without an open trial or a doubt. And where
-- it took a turn in which no call of the disk failed, nothing is in doubt behind it, and an attempt that was doesn't stand.
pub record IsKept (line : Line) (state next last : ScriptState) : Type 0 where
  pub acknowledged : (entry : Entry) → (state_after line state).arming.stopped ≡ false →
      line_answer line state ≡ Some (OfSet (Ok entry)) →
      (later : List Entry)
      × (last.history ≡ (after_expiry state.history state.reading ++ entry ∷ []) ++ later)
  pub shown : (view : View) → (state_after line state).arming.stopped ≡ false →
      line_answer line state ≡ Some (OfGet (Ok view)) →
      (patterns : List (List Elem)) × (front : List Entry) × (later : List Entry)
      × (view ≡ view_of front patterns) × (last.history ≡ front ++ later)
  pub reopened : (state_after line state).arming.stopped ≡ true → ReopensHistory line state next
  pub no_trial : (state_after line state).arming.stopped ≡ true →
      ((world_of next.history).trial ≡ None) × (next.doubt ≡ None)
  pub settled : (event : Event) → line_event line state ≡ Some event →
      takes_turn event.request ≡ true → (book_behind (Some event) state).failed ≡ false →
      ((state_after line state).doubt ≡ None)
      × ((state_after line state).history ≡ history_after (rules_in state) state.history event)

-- each line is taken and kept, what is printed is printed in their order, and then the log of the last history
abbrev pub AreKept : List Line → ScriptState → ScriptState → List ℕ → Type 0
AreKept [] state last text =
    (last ≡ state) × (text ≡ codes "log\n" ++ log_text last.history)
AreKept (line ∷ lines) state last text =
    (printed : List ℕ) × (next : ScriptState) × (rest : List ℕ)
    × Takes line state printed (Some next) × (text ≡ printed ++ rest)
    × IsKept line state next last × AreKept lines next last rest

-- so of the lines that the script's octets are
pub record KeepsAnswers (schema : List SchemaNode) (limits : Limits)
    (script text : List ℕ) : Type 0 where
  pub lines : List Line
  pub are : AreScriptLines (lines_of (within_limit script)) lines
  pub last : ScriptState
  pub kept : AreKept lines (new_state schema limits) last text

abbrev pub WholeScriptsKeep : Type 0
WholeScriptsKeep =
    (schema : List SchemaNode) (limits : Limits) (script text : List ℕ) →
    RunsScript schema limits script text Whole → KeepsAnswers schema limits script text
