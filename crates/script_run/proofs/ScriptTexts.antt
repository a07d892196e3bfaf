-- What a script prints whose lines are all taken.
use Rattle.std.proofs.Common.{◌≡◌, ℕ, ◌+◌, List, [], ◌∷◌, ◌++◌, take, false, Option, Some, None, codes, refl, sym, ap, ◌∙◌, subst, inl, append_assoc, if◌then◌else◌}
use Rattle.std.specs.List.{flat_map}
use Rattle.base_kinds.specs.declared.entry.Entry.{Entry}
use Rattle.base_kinds.specs.declared.entry.Limits.{Limits}
use Rattle.base_kinds.specs.Events.{Event, event_answer, event_answers}
use Rattle.base_kinds.specs.Limits.{most_script_octets}
use Rattle.base_kinds.specs.Rules.{rules_of}
use Rattle.base_kinds.specs.Schema.{SchemaNode}
use Rattle.base_kinds.specs.Step.{Rules}
use Rattle.log_text.specs.Logs.{log_text}
use Rattle.script_text.specs.declared.line.Line.{Line}
use Rattle.script_text.specs.declared.line.Line.TheVariants as kinds
use Rattle.script_text.specs.Lines.{lines_of}
use Rattle.script_run.specs.AnswerLines.{answer_lines, event_reply, lines_if_any, line_text}
use Rattle.script_run.specs.ScriptOctets.{is_too_long, to_last_feed, within_limit}
use Rattle.script_run.specs.ScriptStates.{ScriptState, new_state, rules_in, line_event, state_after}
use Rattle.script_run.specs.Scripts.{Prints, RunsScript}
use Rattle.script_run.specs.Turns.{BookState, turn_answer}
use Rattle.script_run.specs.declared.run.ScriptEnd.TheVariants.{Whole}
use Rattle.script_run.specs.laws.ScriptLaws.{HasNoStop, HaveNoStops, IsQuiet, LetPass, LetsRun, LetRun, NeverStops, state_behind, with_event, script_events}
use Rattle.script_run.specs.laws.ScriptTexts.{ArePlain, AreScriptLines, IsPlain, texts_of, whole_text, PrintsAnswers, AnswersEvents}
use Rattle.std.specs.List.{AllByRecursion}
use Rattle.script_text.proofs.Meanings.{one_meaning}
use Rattle.script_run.proofs.Running.{line_runs, takes_so}
use Rattle.script_run.proofs.ScriptLaws.{history_behind, behind_quiet, stays_quiet, makes_events, fresh_never_stops, prints_one_text}
use Rattle.script_run.proofs.TurnHistories.{answer_quiet}

abbrev quiet_lines : Rules → List Entry → Option Event → List ℕ
quiet_lines rules h None = []
quiet_lines rules h (Some event) = answer_lines (event_answer rules h event)

one_answer : (rules : Rules) (h : List Entry) (event : Option Event) (events : List Event) → quiet_lines rules h event ++ flat_map answer_lines (event_answers rules (history_behind rules h event) events) ≡ flat_map answer_lines (event_answers rules h (with_event event events))
one_answer rules h None events = refl
one_answer rules h (Some event) events = refl

-- what is printed where nothing fails
line_quiet : (event : Option Event) (state : ScriptState) → IsQuiet state → lines_if_any (event_reply event state) ≡ quiet_lines (rules_in state) state.history event
line_quiet None state is = refl
line_quiet (Some event) state is =
    ap (λ (b : BookState). answer_lines (turn_answer (rules_in state) state.history event b.failed)) (behind_quiet (Some event) state is)
    ∙ ap answer_lines (answer_quiet (rules_in state) state.history event)

-- a line that is none of a subscription prints what its event is answered
plain_text : (line : Line) (state : ScriptState) → IsPlain line → line_text line state ≡ lines_if_any (event_reply (line_event line state) state)
unfolding line_text
plain_text (kinds.At reading) state plain = refl
plain_text (kinds.Add act path value) state plain = refl
plain_text (kinds.Set author) state plain = refl
plain_text (kinds.Get author pattern) state plain = refl
plain_text (kinds.Trial author id span) state plain = refl
plain_text (kinds.Confirm author id) state plain = refl
plain_text (kinds.Cancel author id) state plain = refl
plain_text (kinds.Extend author id span) state plain = refl
plain_text (kinds.Stop calls fill) state plain = refl
plain_text (kinds.Fail calls) state plain = refl
plain_text (kinds.Sub line) state plain = absurd plain
plain_text (kinds.Open author name mode only) state plain = absurd plain
plain_text (kinds.Turn name) state plain = absurd plain
plain_text (kinds.Poll name) state plain = absurd plain
plain_text (kinds.End name) state plain = absurd plain

-- and that is of the events
texts_are_of_events : (lines : List Line) (state : ScriptState) → LetPass lines → ArePlain lines → IsQuiet state → texts_of lines state ≡ flat_map answer_lines (event_answers (rules_in state) state.history (script_events lines state))
unfolding state_after
texts_are_of_events [] state lets plain is = refl
texts_are_of_events (line ∷ lines) state lets plain is =
    let rules = rules_in state in
    let event = line_event line state in
    let events = script_events lines (state_after line state) in
    ap (λ rest. line_text line state ++ rest) (texts_are_of_events lines (state_after line state) lets.1 plain.1 (stays_quiet line state lets.0 is))
    ∙ ap (λ text. text ++ flat_map answer_lines (event_answers rules (state_after line state).history events)) (plain_text line state plain.0 ∙ line_quiet event state is)
    ∙ ap (λ (b : BookState). quiet_lines rules state.history event ++ flat_map answer_lines (event_answers rules b.history events)) (behind_quiet event state is)
    ∙ one_answer rules state.history event events

-- lines that are all taken print their answers and the log
prints_all : (number : ℕ) (octets : List (List ℕ)) (lines : List Line) (state : ScriptState) → AreScriptLines octets lines → LetRun lines → NeverStops state.arming → Prints false number octets state (texts_of lines state ++ (codes "log\n" ++ log_text (state_behind lines state).history)) Whole
prints_all number [] [] state are lets never = (refl, refl)
prints_all number [] (line ∷ lines) state are lets never = absurd are
prints_all number (first ∷ others) [] state are lets never = absurd are
prints_all number (first ∷ others) (line ∷ lines) state are lets never =
    let log = codes "log\n" ++ log_text (state_behind lines (state_after line state)).history in
    inl (record {
      line = line;
      meaning = are.0;
      printed = line_text line state;
      next = Some (state_after line state);
      takes = takes_so line state lets.0 never;
      rest = texts_of lines (state_after line state) ++ log;
      whole = append_assoc (line_text line state) (texts_of lines (state_after line state)) log;
      goes_on = prints_all (number + 1) others lines (state_after line state) are.1 lets.1 (line_runs line state lets.0 never);
    })

-- lines that don't let the disk stop are no others that do
no_stops : (octets : List (List ℕ)) (lines : List Line) → AreScriptLines octets lines → LetRun lines → AllByRecursion HasNoStop octets
no_stops [] [] are lets = tt
no_stops [] (line ∷ lines) are lets = absurd are
no_stops (first ∷ others) [] are lets = absurd are
no_stops (first ∷ others) (line ∷ lines) are lets = (
  λ other is. subst LetsRun (one_meaning first line other are.0 is) lets.0,
  no_stops others lines are.1 lets.1,
)

short_script : (script : List ℕ) → is_too_long script ≡ false → within_limit script ≡ script
short_script script short = ap (λ b. if b then to_last_feed (take most_script_octets script) else script) short

runs_all : (schema : List SchemaNode) (limits : Limits) (script : List ℕ) (lines : List Line) → is_too_long script ≡ false → AreScriptLines (lines_of script) lines → LetRun lines → RunsScript schema limits script (whole_text schema limits lines) Whole
unfolding RunsScript
runs_all schema limits script lines short are lets =
    let start = new_state schema limits in
    let text = whole_text schema limits lines in
    subst (λ b. Prints b 1 (lines_of (within_limit script)) start text Whole) (sym short)
    (subst (λ s. Prints false 1 (lines_of s) start text Whole) (sym (short_script script short)) (prints_all 1 (lines_of script) lines start are lets (fresh_never_stops schema limits)))

pub prints_answers : PrintsAnswers
prints_answers schema limits script lines text ending short are lets runs =
    let none : HaveNoStops script = subst (λ s. AllByRecursion HasNoStop (lines_of s)) (sym (short_script script short)) (no_stops (lines_of script) lines are lets) in
    prints_one_text schema limits script text (whole_text schema limits lines) ending Whole none runs (runs_all schema limits script lines short are lets)

pub answers_events : AnswersEvents
answers_events schema limits lines lets plain =
    let start = new_state schema limits in
    let events = script_events lines start in
    let quiet : IsQuiet start = record { doubt = refl; arming = refl } in
    let log = codes "log\n" ++ log_text (state_behind lines start).history in
    ap (λ answers. answers ++ log) (texts_are_of_events lines start lets plain quiet)
    ∙ ap (λ h. flat_map answer_lines (event_answers (rules_of schema limits) [] events) ++ (codes "log\n" ++ log_text h)) (makes_events lines start lets quiet)
