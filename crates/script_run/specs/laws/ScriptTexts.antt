-- What a script prints that has no line but those that scripts may have.
use Rattle.std.specs.Prelude.{◌≡◌, ℕ, List, [], ◌∷◌, ◌++◌, false, codes, ⊤}
use Rattle.std.specs.List.{AllByRecursion, flat_map}
use Rattle.base_kinds.specs.declared.entry.Limits.{Limits}
use Rattle.base_kinds.specs.Events.{Event, event_answers, history_after_all}
use Rattle.base_kinds.specs.Rules.{rules_of}
use Rattle.base_kinds.specs.Schema.{SchemaNode}
use Rattle.log_text.specs.Logs.{log_text}
use Rattle.script_text.specs.declared.line.Line.{Line}
use Rattle.script_text.specs.declared.line.Line.TheVariants as kinds
use Rattle.script_text.specs.Lines.{lines_of}
use Rattle.script_text.specs.Grammar.{IsLine}
use Rattle.script_run.specs.AnswerLines.{answer_lines, line_text}
use Rattle.script_run.specs.ScriptOctets.{is_too_long}
use Rattle.script_run.specs.ScriptStates.{ScriptState, new_state, state_after}
use Rattle.script_run.specs.Scripts.{RunsScript}
use Rattle.script_run.specs.declared.run.ScriptEnd.{ScriptEnd}
use Rattle.script_run.specs.declared.run.ScriptEnd.TheVariants.{Whole}
use Rattle.script_run.specs.laws.ScriptLaws.{LetPass, LetRun, script_events, state_behind}

-- these octets are these lines, one by one
abbrev pub AreScriptLines : List (List ℕ) → List Line → Type 0
AreScriptLines [] [] = ⊤
AreScriptLines [] (line ∷ lines) = ⊥
AreScriptLines (octets ∷ others) [] = ⊥
AreScriptLines (octets ∷ others) (line ∷ lines) =
    IsLine octets line × AreScriptLines others lines

-- what is printed at these lines, one after another
abbrev pub texts_of : List Line → ScriptState → List ℕ
texts_of [] state = []
texts_of (line ∷ lines) state = line_text line state ++ texts_of lines (state_after line state)

-- these texts, and then the log of the history that the lines made
abbrev pub whole_text : List SchemaNode → Limits → List Line → List ℕ
whole_text schema limits lines = let start = new_state schema limits in
    texts_of lines start ++ (codes "log\n" ++ log_text (state_behind lines start).history)

-- a script within the limit of its octets whose lines are these, none of which lets the disk stop, prints that, and it is whole
abbrev pub PrintsAnswers : Type 0
PrintsAnswers =
    (schema : List SchemaNode) (limits : Limits) (script : List ℕ) (lines : List Line)
    (text : List ℕ) (ending : ScriptEnd) →
    is_too_long script ≡ false → AreScriptLines (lines_of script) lines → LetRun lines →
    RunsScript schema limits script text ending →
    (text ≡ whole_text schema limits lines) × (ending ≡ Whole)

-- the answers to events, one after another, and then the log of the history that they made
abbrev pub events_text : List SchemaNode → Limits → List Event → List ℕ
events_text schema limits events =
    flat_map answer_lines (event_answers (rules_of schema limits) [] events)
    ++ (codes "log\n" ++ log_text (history_after_all (rules_of schema limits) [] events))

-- the line is none of a subscription
abbrev pub IsPlain : Line → Type 0
IsPlain (kinds.Sub line) = ⊥
IsPlain (kinds.Open author name mode only) = ⊥
IsPlain (kinds.Turn name) = ⊥
IsPlain (kinds.Poll name) = ⊥
IsPlain (kinds.End name) = ⊥
IsPlain _ = Unit {0}

abbrev pub ArePlain : List Line → Type 0
ArePlain = AllByRecursion IsPlain

-- where no line lets the disk fail or stop, and none is of a subscription, what is printed are the answers to the events that the
-- lines are
abbrev pub AnswersEvents : Type 0
AnswersEvents =
    (schema : List SchemaNode) (limits : Limits) (lines : List Line) → LetPass lines
    → ArePlain lines →
    whole_text schema limits lines
    ≡ events_text schema limits (script_events lines (new_state schema limits))
