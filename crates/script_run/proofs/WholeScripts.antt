-- A script whose every line was taken, from its last state back.
use Rattle.std.proofs.Common.{◌≡◌, ℕ, ◌+◌, List, [], ◌∷◌, ◌++◌, Bool, true, false, codes, Option, Some, None, refl, sym, ◌∙◌, subst, inl, inr}
use Rattle.base_kinds.specs.declared.entry.Limits.{Limits}
use Rattle.base_kinds.specs.Schema.{SchemaNode}
use Rattle.log_text.specs.Logs.{log_text}
use Rattle.script_text.specs.declared.line.Line.{Line}
use Rattle.script_text.specs.Lines.{lines_of}
use Rattle.script_run.specs.Restarts.{Takes, TakesBy}
use Rattle.script_run.specs.ScriptOctets.{is_too_long, within_limit}
use Rattle.script_run.specs.ScriptStates.{ScriptState, new_state, state_after}
use Rattle.script_run.specs.Scripts.{Follows, Prints, RunsScript}
use Rattle.script_run.specs.declared.run.ScriptEnd.{ScriptEnd}
use Rattle.script_run.specs.declared.run.ScriptEnd.TheVariants.{Whole, Refused, DiskFault}
use Rattle.script_run.specs.laws.ScriptLaws.{LeadTo}
use Rattle.script_run.specs.laws.ScriptTexts.{AreScriptLines}
use Rattle.script_run.specs.laws.WholeScripts.{AreKept, IsKept, KeepsAnswers}
use Rattle.script_run.proofs.Crashes.{acknowledged_stay, disks_run_on, doubts_are_settled, shown_stay, stops_end_trials, stops_reopen}

-- the lines on the way to the last state, and what they print
abbrev AreTaken : List Line → ScriptState → ScriptState → List ℕ → Type 0
AreTaken [] state last text = (last ≡ state) × (text ≡ codes "log\n" ++ log_text last.history)
AreTaken (line ∷ lines) state last text =
    (printed : List ℕ) × (next : ScriptState) × (rest : List ℕ) × Takes line state printed (Some next) × (text ≡ printed ++ rest) × AreTaken lines next last rest

record Way (octets : List (List ℕ)) (state : ScriptState) (text : List ℕ) : Type 0 where
  pub lines : List Line
  pub are : AreScriptLines octets lines
  pub last : ScriptState
  pub taken : AreTaken lines state last text

whole_alone : Whole ≡ Refused → ⊥
whole_alone is = cc is

whole_runs : Whole ≡ DiskFault → ⊥
whole_runs is = cc is

way : (goes_on : Bool) (number : ℕ) (octets : List (List ℕ)) (state : ScriptState) (text : List ℕ) (ending : ScriptEnd) → ending ≡ Whole → Prints goes_on number octets state text ending → Way octets state text
way false number [] state text ending is prints = record { lines = []; are = tt; last = state; taken = (refl, prints.0) }
way true number [] state text ending is prints = absurd (whole_alone (sym is ∙ prints.1))
way goes_on number (first ∷ others) state text ending is (inr none) = absurd (whole_alone (sym is ∙ none.2))
way goes_on number (first ∷ others) state text ending is (inl taken) = by taken.next (λ next prints. way goes_on (number + 1) others next taken.rest ending is prints) taken.takes taken.goes_on
  where
    by : (next : Option ScriptState) → ((after : ScriptState) → Prints goes_on (number + 1) others after taken.rest ending → Way others after taken.rest) → Takes taken.line state taken.printed next → Follows (λ after rest. Prints goes_on (number + 1) others after rest ending) ending next taken.rest → Way (first ∷ others) state text
    by None on takes follows = absurd (whole_runs (sym is ∙ follows.1))
    by (Some next) on takes follows =
        let later = on next follows in
        record {
          lines = taken.line ∷ later.lines;
          are = (taken.meaning, later.are);
          last = later.last;
          taken = (taken.printed, next, taken.rest, takes, taken.whole, later.taken);
        }

leads : (lines : List Line) (state last : ScriptState) (text : List ℕ) → AreTaken lines state last text → LeadTo lines state last
leads [] state last text taken = taken.0
leads (line ∷ lines) state last text taken = (taken.0, taken.1, taken.3, leads lines taken.1 last taken.2 taken.5)

-- where the disk hasn't stopped, the state behind the line's turn is the next one
next_is : (line : Line) (state next : ScriptState) (printed : List ℕ) → Takes line state printed (Some next) → (state_after line state).arming.stopped ≡ false → next ≡ state_after line state
next_is line state next printed takes running =
    let by : TakesBy false line state printed (Some next) = subst (λ b. TakesBy b line state printed (Some next)) running takes in
    let same : Some next ≡ Some (state_after line state) = by.1 in
    cc same

line_kept : (line : Line) (lines : List Line) (state next last : ScriptState) (printed : List ℕ) → state.arming.stopped ≡ false → Takes line state printed (Some next) → LeadTo lines next last → IsKept line state next last
line_kept line lines state next last printed running takes leads = record {
  acknowledged = λ entry fine answered. acknowledged_stay line lines state last entry answered (record { running = fine; leads = subst (λ (s : ScriptState). LeadTo lines s last) (next_is line state next printed takes fine) leads });
  shown = λ view fine answered. shown_stay line lines state last view answered (record { running = fine; leads = subst (λ (s : ScriptState). LeadTo lines s last) (next_is line state next printed takes fine) leads });
  reopened = λ stops. stops_reopen line state next (record { printed = printed; running = running; stopped = stops; takes = takes });
  no_trial = λ stops. stops_end_trials line state next (record { printed = printed; running = running; stopped = stops; takes = takes });
  settled = λ event is turn fine. doubts_are_settled line state event running is turn fine;
}

all_kept : (lines : List Line) (state last : ScriptState) (text : List ℕ) → state.arming.stopped ≡ false → AreTaken lines state last text → AreKept lines state last text
all_kept [] state last text running taken = taken
all_kept (line ∷ lines) state last text running taken = (
  taken.0,
  taken.1,
  taken.2,
  taken.3,
  taken.4,
  line_kept line lines state taken.1 last taken.0 running taken.3 (leads lines taken.1 last taken.2 taken.5),
  all_kept lines taken.1 last taken.2 (disks_run_on line state taken.1 taken.0 taken.3) taken.5,
)

pub whole_scripts_keep : (schema : List SchemaNode) (limits : Limits) (script text : List ℕ) → RunsScript schema limits script text Whole → KeepsAnswers schema limits script text
unfolding RunsScript
whole_scripts_keep schema limits script text runs =
    let found = way (is_too_long script) 1 (lines_of (within_limit script)) (new_state schema limits) text Whole refl runs in
    record {
      lines = found.lines;
      are = found.are;
      last = found.last;
      kept = all_kept found.lines (new_state schema limits) found.last text refl found.taken;
    }
