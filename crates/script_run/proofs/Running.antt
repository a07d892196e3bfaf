-- Lines in whose turns the disk doesn't stop.
use Rattle.std.proofs.Common.{◌≡◌, ℕ, zero, suc, List, [], ◌∷◌, Bool, true, false, Option, Some, None, refl, sym, subst, if◌then◌else◌}
use Rattle.base_kinds.specs.declared.entry.Entry.{Entry}
use Rattle.base_kinds.specs.Events.{Event}
use Rattle.disk_model.specs.Arming.{Arming, arming_after, arming_after_calls}
use Rattle.book_core.specs.Calls.{expiry_entry, repair_calls}
use Rattle.script_text.specs.declared.line.Line.{Line}
use Rattle.script_text.specs.declared.line.Line.TheVariants as lines
use Rattle.script_run.specs.AnswerLines.{line_text}
use Rattle.script_run.specs.Restarts.{Takes, TakesBy}
use Rattle.script_run.specs.ScriptStates.{ScriptState, rules_in, line_event, book_in, book_behind, arming_with, state_after}
use Rattle.script_run.specs.Turns.{BookState, failed_call, settled_by, settled, entered_by, entered, turn, takes_turn, event_entry}
use Rattle.script_run.specs.laws.ScriptLaws.{LeadTo, LetsRun, LetRun, NeverStops, state_behind}

after_one : (arming : Arming) → NeverStops arming → NeverStops (arming_after arming)
after_one arming never =
    let is : arming ≡ record { stops = []; fails = arming.fails; stopped = false } = λ i. record { stops = never.stops i; fails = arming.fails; stopped = never.stopped i } in
    subst (λ (a : Arming). NeverStops (arming_after a)) (sym is) (record { stops = refl; stopped = refl })

after_calls : (calls : ℕ) (arming : Arming) → NeverStops arming → NeverStops (arming_after_calls calls arming)
after_calls zero arming never = never
after_calls (suc calls) arming never = after_calls calls (arming_after arming) (after_one arming never)

settles : (book : BookState) → NeverStops book.arming → NeverStops (settled book).arming
settles book never = by (failed_call (repair_calls book.doubt) book.arming)
  where
    by : (call : Option ℕ) → NeverStops (settled_by call book).arming
    by None = after_calls (repair_calls book.doubt) book.arming never
    by (Some call) = after_calls (suc call) book.arming never

enters : (asked : Option Entry) (book : BookState) → NeverStops book.arming → NeverStops (entered asked book).arming
enters None book never = never
enters (Some entry) book never = by book.failed
  where
    by_call : (call : Option ℕ) → NeverStops (entered_by call entry book).arming
    by_call None = after_calls 4 book.arming never
    by_call (Some call) = after_calls (suc call) book.arming never

    by : (failed : Bool) → NeverStops (if failed then book else entered_by (failed_call 4 book.arming) entry book).arming
    by true = never
    by false = by_call (failed_call 4 book.arming)

turn_runs : (reading : ℕ) (asked : Option Entry) (book : BookState) → NeverStops book.arming → NeverStops (turn reading asked book).arming
unfolding turn
turn_runs reading asked book never =
    enters asked (entered (expiry_entry book.history reading) (settled book))
    (enters (expiry_entry book.history reading) (settled book) (settles book never))

event_runs : (event : Option Event) (state : ScriptState) → NeverStops state.arming → NeverStops (book_behind event state).arming
event_runs None state never = never
event_runs (Some event) state never = by (takes_turn event.request)
  where
    by : (takes : Bool) → NeverStops (if takes then turn event.reading (event_entry (rules_in state) state.history event) (book_in state) else book_in state).arming
    by true = turn_runs event.reading (event_entry (rules_in state) state.history event) (book_in state) never
    by false = never

armed_runs : (line : Line) (arming : Arming) → LetsRun line → NeverStops arming → NeverStops (arming_with line arming)
armed_runs (lines.Set author) arming lets never = never
armed_runs (lines.Get author pattern) arming lets never = never
armed_runs (lines.Trial author id span) arming lets never = never
armed_runs (lines.Confirm author id) arming lets never = never
armed_runs (lines.Cancel author id) arming lets never = never
armed_runs (lines.Extend author id span) arming lets never = never
armed_runs (lines.At reading) arming lets never = never
armed_runs (lines.Add act path value) arming lets never = never
armed_runs (lines.Sub line) arming lets never = never
armed_runs (lines.Open author name mode only) arming lets never = never
armed_runs (lines.Turn name) arming lets never = never
armed_runs (lines.Poll name) arming lets never = never
armed_runs (lines.End name) arming lets never = never
armed_runs (lines.Stop calls fill) arming lets never = absurd lets
armed_runs (lines.Fail calls) arming lets never = record { stops = never.stops; stopped = never.stopped }

pub line_runs : (line : Line) (state : ScriptState) → LetsRun line → NeverStops state.arming → NeverStops (state_after line state).arming
unfolding state_after
line_runs line state lets never = armed_runs line (book_behind (line_event line state) state).arming lets (event_runs (line_event line state) state never)

-- ---- what such a line prints, and the state behind it

pub takes_so : (line : Line) (state : ScriptState) → LetsRun line → NeverStops state.arming → Takes line state (line_text line state) (Some (state_after line state))
takes_so line state lets never =
    subst (λ b. TakesBy b line state (line_text line state) (Some (state_after line state))) (sym (line_runs line state lets never).stopped) (refl, refl)

pub takes_one : (line : Line) (state : ScriptState) (text : List ℕ) (next : Option ScriptState) → LetsRun line → NeverStops state.arming → Takes line state text next → (text ≡ line_text line state) × (next ≡ Some (state_after line state))
takes_one line state text next lets never takes = subst (λ b. TakesBy b line state text next) (line_runs line state lets never).stopped takes

pub lead_to_one : (ls : List Line) (state left : ScriptState) → LetRun ls → NeverStops state.arming → LeadTo ls state left → left ≡ state_behind ls state
lead_to_one [] state left lets never leads = leads
lead_to_one (line ∷ ls) state left lets never leads =
    let one = takes_one line state leads.0 (Some leads.1) lets.0 never leads.2 in
    let same : leads.1 ≡ state_after line state = cc (one.1) in
    lead_to_one ls (state_after line state) left lets.1 (line_runs line state lets.0 never) (subst (λ (s : ScriptState). LeadTo ls s left) same leads.3)
