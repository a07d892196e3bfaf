-- What a stop leaves of a script's history, and that what was answered stays.
use Rattle.std.proofs.Common.{◌≡◌, ◌⊎◌, ℕ, zero, suc, nat_lt, is_some, List, [], ◌∷◌, ◌++◌, Bool, true, false, Option, Some, None, option_map, Ok, Err, refl, sym, ap, ◌∙◌, subst, inl, inr, append-nil, if◌then◌else◌}
use Rattle.std.specs.List.{list_any}
use Rattle.base_kinds.specs.declared.path.Elem.{Elem}
use Rattle.base_kinds.specs.declared.entry.Entry.{Entry}
use Rattle.base_kinds.specs.declared.entry.Limits.{Limits}
use Rattle.base_kinds.specs.declared.entry.View.{View}
use Rattle.base_kinds.specs.declared.refusal.Refusal.TheVariants as refusals
use Rattle.base_kinds.specs.Events.{Request, Set, Get, Event, OfGet, history_after, history_after_request, get_answer, is_empty_part, is_long, view_of, view_or_not_found}
use Rattle.base_kinds.specs.History.{world_of}
use Rattle.base_kinds.specs.Step.{Rules, after_expiry, is_open}
use Rattle.commit_journal.specs.Images.{IsOneOf, histories_or}
use Rattle.book_core.specs.Calls.{expiry_entry, repair_calls}
use Rattle.book_core.specs.Openings.{opening_stages}
use Rattle.book_port.specs.Opened.{reopened, restart_entry}
use Rattle.book_port.proofs.Runs.{reopened_has_no_trial, reopened_once}
use Rattle.base_kinds.specs.declared.fill.Fill.{Fill}
use Rattle.disk_model.specs.Arming.{Arming, arming_after, arming_after_calls, line_that_hits, outcome_by, outcome_of, restarted}
use Rattle.disk_model.specs.declared.outcome.Outcome.{Outcome}
use Rattle.disk_model.specs.declared.outcome.Outcome.TheVariants.{Passes, Fails, Stops}
use Rattle.script_text.specs.declared.line.Line.{Line}
use Rattle.script_text.specs.declared.line.Line.TheVariants as lines
use Rattle.script_run.specs.AnswerLines.{event_reply, line_answer, look_reply}
use Rattle.script_run.specs.Restarts.{Restarts, Takes, TakesBy, restarted_state}
use Rattle.script_run.specs.ScriptStates.{ScriptState, rules_in, event_of_look, line_event, line_look, look_answer, arming_with, book_in, book_behind, state_after}
use Rattle.script_run.specs.Stops.{Image, OpensAgain, Restarted, calls_to_open}
use Rattle.script_run.specs.Turns.{BookState, doubt_at, entered, entered_by, event_entry, failed_call, failed_first, look_event, patterns_in, request_reply, settled, settled_by, takes_turn, turn, unless_failed}
use Rattle.script_run.specs.laws.CrashLaws.{DisksRunOn, IsReopened, IsAttempt, ReopensHistory, StopsReopen, StopsEndTrials, AcknowledgedStay, ShownStay, DoubtsAreSettled, entry_asked}
use Rattle.script_run.specs.laws.ScriptLaws.{LeadTo, LeavesBy}
use Rattle.script_run.proofs.ScriptLaws.{GoesOn, answers_tell, event_leaves, goes_on_then, line_goes_on, look_leaves, reading_is}

-- ---- what the openings behind a stop give

one_reopened : (b : Bool) (h g : List Entry) (now : ℕ) → IsOneOf (if b then h ∷ [] else opening_stages h now) g → reopened g now ≡ reopened h now
one_reopened true h g now (inl is) = ap (λ f. reopened f now) is
one_reopened true h g now (inr none) = absurd none
one_reopened false h g now (inl is) = ap (λ f. reopened f now) is
one_reopened false h g now (inr (inl is)) = ap (λ f. reopened f now) is ∙ reopened_once h now now
one_reopened false h g now (inr (inr none)) = absurd none

opened_history : (image : Image) (later : List Image) (limits : Limits) (now : ℕ) (arming : Arming) (restart : Restarted) → OpensAgain image later limits now arming (Some restart) → restart.history ≡ reopened image.history now
opened_history image [] limits now arming restart (inl opened) = let same : restart ≡ record { history = reopened image.history now; arming = restart.arming } = cc (opened.ending_is) in ap (λ (r : Restarted). r.history) same
opened_history image [] limits now arming restart (inr fails) = absurd (cc (fails.ending_is))
opened_history image (next ∷ later) limits now arming restart opens =
    opened_history next later limits now _ restart opens.1
    ∙ one_reopened (nat_lt opens.0.call _) image.history next.history now opens.0.leaves.is_one

-- the history that was found, and the state behind it
record Found (left next : ScriptState) : Type 0 where
  found : List Entry
  is_one : IsOneOf (histories_or left.history left.doubt) found
  history : next.history ≡ reopened found left.reading
  no_doubt : next.doubt ≡ None

found_by : (left next : ScriptState) (image : Image) (later : List Image) (arming : Arming) (ending : Option Restarted) → IsOneOf (histories_or left.history left.doubt) image.history → OpensAgain image later left.limits left.reading arming ending → Some next ≡ option_map (restarted_state left) ending → Found left next
found_by left next image later arming None one opens is = absurd (cc is)
found_by left next image later arming (Some restart) one opens is =
    let same : next ≡ restarted_state left restart = cc is in
    record {
      found = image.history;
      is_one = one;
      history = ap (λ (s : ScriptState). s.history) same ∙ opened_history image later left.limits left.reading arming restart opens;
      no_doubt = ap (λ (s : ScriptState). s.doubt) same;
    }

found : (line : Line) (state next : ScriptState) → IsReopened line state next → Found (state_after line state) next
found line state next is =
    let restarts : Restarts (state_after line state) is.printed (Some next) = subst (λ b. TakesBy b line state is.printed (Some next)) is.stopped is.takes in
    found_by (state_after line state) next restarts.first restarts.later _ restarts.ending restarts.leaves.is_one restarts.opens restarts.next_is

-- ---- what a turn leaves in doubt

-- each of these is one of those
abbrev Among : Option Entry → Option Entry → Option Entry → Option Entry → Type 0
Among doubt expiry asked left = (entry : Entry) → left ≡ Some entry → (doubt ≡ Some entry) ⊎ (expiry ≡ Some entry) ⊎ (asked ≡ Some entry)

none_among : (doubt expiry asked : Option Entry) → Among doubt expiry asked None
none_among doubt expiry asked entry is = absurd (cc is)

at_among : (doubt expiry asked : Option Entry) (call : ℕ) (entry : Entry) → (expiry ≡ Some entry) ⊎ (asked ≡ Some entry) → Among doubt expiry asked (doubt_at call entry)
at_among doubt expiry asked call entry which = by (nat_lt call 2)
  where
    this : (expiry ≡ Some entry) ⊎ (asked ≡ Some entry) → Among doubt expiry asked (Some entry)
    this (inl is) other same = inr (inl (is ∙ same))
    this (inr is) other same = inr (inr (is ∙ same))

    by : (first : Bool) → Among doubt expiry asked (if first then None else Some entry)
    by true = none_among doubt expiry asked
    by false = this which

settled_among : (expiry asked : Option Entry) (book : BookState) → Among book.doubt expiry asked (settled book).doubt
settled_among expiry asked book = by (failed_call (repair_calls book.doubt) book.arming)
  where
    by : (call : Option ℕ) → Among book.doubt expiry asked (settled_by call book).doubt
    by None = none_among book.doubt expiry asked
    by (Some call) = λ entry is. inl is

entered_among : (doubt expiry asked this : Option Entry) (book : BookState) → ((entry : Entry) → this ≡ Some entry → (expiry ≡ Some entry) ⊎ (asked ≡ Some entry)) → Among doubt expiry asked book.doubt → Among doubt expiry asked (entered this book).doubt
entered_among doubt expiry asked None book which among = among
entered_among doubt expiry asked (Some entry) book which among = by book.failed
  where
    by_call : (call : Option ℕ) → Among doubt expiry asked (entered_by call entry book).doubt
    by_call None = none_among doubt expiry asked
    by_call (Some call) = at_among doubt expiry asked call entry (which entry refl)

    by : (failed : Bool) → Among doubt expiry asked (if failed then book else entered_by (failed_call 4 book.arming) entry book).doubt
    by true = among
    by false = by_call (failed_call 4 book.arming)

settled_history : (book : BookState) → (settled book).history ≡ book.history
settled_history book = by (failed_call (repair_calls book.doubt) book.arming)
  where
    by : (call : Option ℕ) → (settled_by call book).history ≡ book.history
    by None = refl
    by (Some call) = refl

turn_among : (reading : ℕ) (asked : Option Entry) (book : BookState) → Among book.doubt (expiry_entry book.history reading) asked (turn reading asked book).doubt
unfolding turn
turn_among reading asked book =
    let expiry : Option Entry = expiry_entry book.history reading in
    entered_among book.doubt expiry asked asked (entered expiry (settled book)) (λ entry is. inr is)
    (entered_among book.doubt expiry asked expiry (settled book) (λ entry is. inl is) (settled_among expiry asked book))

-- ---- the histories that a stop leaves

event_among : (line : Line) (state : ScriptState) (event : Event) → event.reading ≡ state.reading → line_event line state ≡ Some event → (entry : Entry) → (book_behind (Some event) state).doubt ≡ Some entry → IsAttempt line state entry
event_among line state event reading is entry left = by (takes_turn event.request) left
  where
    asked : entry_asked (line_event line state) state ≡ event_entry (rules_in state) state.history event
    asked = ap (λ e. entry_asked e state) is

    which : (state.doubt ≡ Some entry) ⊎ (expiry_entry state.history event.reading ≡ Some entry) ⊎ (event_entry (rules_in state) state.history event ≡ Some entry) → IsAttempt line state entry
    which (inl same) = inl same
    which (inr (inl same)) = inr (inl (ap (expiry_entry state.history) (sym reading) ∙ same))
    which (inr (inr same)) = inr (inr (asked ∙ same))

    by : (takes : Bool) → (if takes then turn event.reading (event_entry (rules_in state) state.history event) (book_in state) else book_in state).doubt ≡ Some entry → IsAttempt line state entry
    by true same = which (turn_among event.reading (event_entry (rules_in state) state.history event) (book_in state) entry same)
    by false same = inl same

-- ---- a stop is a call that fails

passes_runs : (arming : Arming) → outcome_of arming ≡ Passes → (arming_after arming).stopped ≡ false
passes_runs arming is = by arming.stops arming.fails arming.stopped is
  where
    hit : (stop : Option Fill) (failure : Option (Unit {0})) → outcome_by stop failure ≡ Passes → is_some stop ≡ false
    hit None failure is = refl
    hit (Some fill) failure is = absurd (cc is)

    by : (stops : List (ℕ × Fill)) (fails : List (ℕ × Unit {0})) (stopped : Bool) → outcome_of (record { stops = stops; fails = fails; stopped = stopped }) ≡ Passes → (arming_after (record { stops = stops; fails = fails; stopped = stopped })).stopped ≡ false
    by stops fails true is = absurd (cc is)
    by stops fails false is = hit (line_that_hits stops) (line_that_hits fails) is

none_first : (outcome : Outcome) (later : Option ℕ) → failed_first outcome later ≡ None → (outcome ≡ Passes) × (later ≡ None)
none_first Passes None is = (refl, refl)
none_first Passes (Some call) is = absurd (cc is)
none_first Fails later is = absurd (cc is)
none_first (Stops fill) later is = absurd (cc is)

pub no_fail_runs : (calls : ℕ) (arming : Arming) → failed_call calls arming ≡ None → arming.stopped ≡ false → (arming_after_calls calls arming).stopped ≡ false
no_fail_runs zero arming is running = running
no_fail_runs (suc calls) arming is running =
    let both = none_first (outcome_of arming) (failed_call calls (arming_after arming)) is in
    no_fail_runs calls (arming_after arming) both.1 (passes_runs arming both.0)

-- where no call has failed the disk hasn't stopped, and nothing is in doubt
record Fine (settles : Bool) (book : BookState) : Type 0 where
  running : book.failed ≡ false → book.arming.stopped ≡ false
  no_doubt : settles ≡ true → book.failed ≡ false → book.doubt ≡ None

settled_fine : (book : BookState) → book.arming.stopped ≡ false → Fine true (settled book)
settled_fine book running = by (failed_call (repair_calls book.doubt) book.arming) refl
  where
    by : (call : Option ℕ) → failed_call (repair_calls book.doubt) book.arming ≡ call → Fine true (settled_by call book)
    by None is = record { running = λ _. no_fail_runs (repair_calls book.doubt) book.arming is running; no_doubt = λ _ _. refl }
    by (Some call) is = record { running = λ fine. absurd (cc fine); no_doubt = λ _ fine. absurd (cc fine) }

entered_fine : (asked : Option Entry) (book : BookState) → Fine true book → Fine true (entered asked book)
entered_fine None book fine = fine
entered_fine (Some entry) book fine = by book.failed
  where
    by_call : (call : Option ℕ) → failed_call 4 book.arming ≡ call → Fine true (entered_by call entry book)
    by_call None is = record { running = λ same. no_fail_runs 4 book.arming is (fine.running same); no_doubt = λ _ _. refl }
    by_call (Some call) is = record { running = λ same. absurd (cc same); no_doubt = λ _ same. absurd (cc same) }

    by : (failed : Bool) → Fine true (if failed then book else entered_by (failed_call 4 book.arming) entry book)
    by true = fine
    by false = by_call (failed_call 4 book.arming) refl

turn_fine : (reading : ℕ) (asked : Option Entry) (book : BookState) → book.arming.stopped ≡ false → Fine true (turn reading asked book)
unfolding turn
turn_fine reading asked book running =
    entered_fine asked (entered (expiry_entry book.history reading) (settled book))
    (entered_fine (expiry_entry book.history reading) (settled book) (settled_fine book running))

event_fine : (event : Event) (state : ScriptState) → state.arming.stopped ≡ false → Fine (takes_turn event.request) (book_behind (Some event) state)
event_fine event state running = by (takes_turn event.request)
  where
    by : (takes : Bool) → Fine takes (if takes then turn event.reading (event_entry (rules_in state) state.history event) (book_in state) else book_in state)
    by true = turn_fine event.reading (event_entry (rules_in state) state.history event) (book_in state) running
    by false = record { running = λ _. running; no_doubt = λ not. absurd (cc not) }

failed_by : (b : Bool) (stopped : Bool) → (b ≡ false → stopped ≡ false) → stopped ≡ true → b ≡ true
failed_by true stopped fine is = refl
failed_by false stopped fine is = absurd (let not : stopped ≡ false = fine refl in cc)

armed_same : (line : Line) (arming : Arming) → (arming_with line arming).stopped ≡ arming.stopped
armed_same (lines.Set author) arming = refl
armed_same (lines.Get author pattern) arming = refl
armed_same (lines.Trial author id span) arming = refl
armed_same (lines.Confirm author id) arming = refl
armed_same (lines.Cancel author id) arming = refl
armed_same (lines.Extend author id span) arming = refl
armed_same (lines.At reading) arming = refl
armed_same (lines.Add act path value) arming = refl
armed_same (lines.Sub line) arming = refl
armed_same (lines.Open author name mode only) arming = refl
armed_same (lines.Turn name) arming = refl
armed_same (lines.Poll name) arming = refl
armed_same (lines.End name) arming = refl
armed_same (lines.Stop calls fill) arming = refl
armed_same (lines.Fail calls) arming = refl

stopped_behind : (line : Line) (state : ScriptState) → (state_after line state).arming.stopped ≡ (book_behind (line_event line state) state).arming.stopped
unfolding state_after
stopped_behind line state = armed_same line (book_behind (line_event line state) state).arming

reading_same : (line : Line) (state : ScriptState) (event : Event) → line_event line state ≡ Some event → (state_after line state).reading ≡ state.reading
unfolding state_after
reading_same (lines.At reading) state event is = absurd (cc is)
reading_same (lines.Set author) state event is = refl
reading_same (lines.Get author pattern) state event is = refl
reading_same (lines.Trial author id span) state event is = refl
reading_same (lines.Confirm author id) state event is = refl
reading_same (lines.Cancel author id) state event is = refl
reading_same (lines.Extend author id span) state event is = refl
reading_same (lines.Add act path value) state event is = refl
reading_same (lines.Sub line) state event is = refl
reading_same (lines.Open author name mode only) state event is = refl
reading_same (lines.Turn name) state event is = refl
reading_same (lines.Poll name) state event is = refl
reading_same (lines.End name) state event is = refl
reading_same (lines.Stop calls fill) state event is = refl
reading_same (lines.Fail calls) state event is = refl

-- ---- what is reopened

history_behind_is : (line : Line) (state : ScriptState) → ((state_after line state).history ≡ (book_behind (line_event line state) state).history) × ((state_after line state).doubt ≡ (book_behind (line_event line state) state).doubt)
unfolding state_after
history_behind_is line state = (refl, refl)

pub stops_reopen : StopsReopen
stops_reopen line state next is = by (line_event line state) refl
  where
    here : Found (state_after line state) next
    here = found line state next is

    by : (event : Option Event) → line_event line state ≡ event → ReopensHistory line state next
    by None none =
        let book : BookState = book_behind (line_event line state) state in
        let stopped : book.arming.stopped ≡ true = sym (stopped_behind line state) ∙ is.stopped in
        let same : state.arming.stopped ≡ true = ap (λ e. (book_behind e state).arming.stopped) (sym none) ∙ stopped in
        absurd (let running : state.arming.stopped ≡ false = is.running in cc)
    by (Some event) some =
        let book : BookState = book_behind (Some event) state in
        let parts = history_behind_is line state in
        let stopped : book.arming.stopped ≡ true = ap (λ e. (book_behind e state).arming.stopped) (sym some) ∙ sym (stopped_behind line state) ∙ is.stopped in
        let failed : book.failed ≡ true = failed_by book.failed book.arming.stopped (event_fine event state is.running).running stopped in
        let reading : event.reading ≡ state.reading = reading_is line state event some in
        let history : (state_after line state).history ≡ book.history = parts.0 ∙ ap (λ e. (book_behind e state).history) some in
        let doubt : (state_after line state).doubt ≡ book.doubt = parts.1 ∙ ap (λ e. (book_behind e state).doubt) some in
        record {
          left = (state_after line state).history;
          left_is = elim ((event_leaves state event).cut failed) [
            | inl same ↦ inl (history ∙ same)
            | inr behind ↦ inr (history ∙ behind ∙ ap (after_expiry state.history) reading)
          ];
          doubt = (state_after line state).doubt;
          attempt = λ entry left. event_among line state event reading some entry (sym doubt ∙ left);
          found = here.found;
          is_one = here.is_one;
          history = here.history ∙ ap (reopened here.found) (reading_same line state event some);
        }

pub stops_end_trials : StopsEndTrials
stops_end_trials line state next is =
    let here = found line state next is in
    (subst (λ h. (world_of h).trial ≡ None) (sym here.history) (reopened_has_no_trial here.found (state_after line state).reading), here.no_doubt)

-- ---- the disk that is made of what a stop left

opened_runs : (image : Image) (later : List Image) (limits : Limits) (now : ℕ) (arming : Arming) (restart : Restarted) → arming.stopped ≡ false → OpensAgain image later limits now arming (Some restart) → restart.arming.stopped ≡ false
opened_runs image [] limits now arming restart running (inl opened) =
    let same : restart ≡ record { history = restart.history; arming = arming_after_calls (calls_to_open image) arming } = cc (opened.ending_is) in
    ap (λ (r : Restarted). r.arming.stopped) same ∙ no_fail_runs (calls_to_open image) arming opened.passes running
opened_runs image [] limits now arming restart running (inr fails) = absurd (cc (fails.ending_is))
opened_runs image (next ∷ later) limits now arming restart running opens = opened_runs next later limits now _ restart refl opens.1

runs_by : (left next : ScriptState) (image : Image) (later : List Image) (ending : Option Restarted) → OpensAgain image later left.limits left.reading (restarted left.arming) ending → Some next ≡ option_map (restarted_state left) ending → next.arming.stopped ≡ false
runs_by left next image later None opens is = absurd (cc is)
runs_by left next image later (Some restart) opens is =
    let same : next ≡ restarted_state left restart = cc is in
    ap (λ (s : ScriptState). s.arming.stopped) same ∙ opened_runs image later left.limits left.reading (restarted left.arming) restart refl opens

pub disks_run_on : DisksRunOn
disks_run_on line state next printed takes = by (state_after line state).arming.stopped refl takes
  where
    by : (stopped : Bool) → (state_after line state).arming.stopped ≡ stopped → TakesBy stopped line state printed (Some next) → next.arming.stopped ≡ false
    by true is restarts = runs_by (state_after line state) next restarts.first restarts.later restarts.ending restarts.opens restarts.next_is
    by false is taken = let same : next ≡ state_after line state = cc (taken.1) in ap (λ (s : ScriptState). s.arming.stopped) same ∙ is

-- ---- what was answered stays

restart_goes_on : (h : List Entry) (now : ℕ) → GoesOn h (reopened h now)
restart_goes_on h now = by (is_open (world_of h).trial)
  where
    by : (b : Bool) → GoesOn h (if b then h ++ restart_entry h now ∷ [] else h)
    by true = record { later = restart_entry h now ∷ []; whole = refl }
    by false = record { later = []; whole = sym (append-nil h) }

one_goes_on : (h : List Entry) (doubt : Option Entry) (g : List Entry) → IsOneOf (histories_or h doubt) g → GoesOn h g
one_goes_on h None g (inl is) = record { later = []; whole = is ∙ sym (append-nil h) }
one_goes_on h None g (inr none) = absurd none
one_goes_on h (Some attempt) g (inl is) = record { later = []; whole = is ∙ sym (append-nil h) }
one_goes_on h (Some attempt) g (inr (inl is)) = record { later = attempt ∷ []; whole = is }
one_goes_on h (Some attempt) g (inr (inr none)) = absurd none

found_goes_on : (left next : ScriptState) → Found left next → GoesOn left.history next.history
found_goes_on left next is =
    goes_on_then left.history is.found next.history (one_goes_on left.history left.doubt is.found is.is_one)
    (subst (GoesOn is.found) (sym is.history) (restart_goes_on is.found left.reading))

takes_go_on : (line : Line) (state next : ScriptState) (printed : List ℕ) → Takes line state printed (Some next) → GoesOn state.history next.history
takes_go_on line state next printed takes = by (state_after line state).arming.stopped refl takes
  where
    first : GoesOn state.history (state_after line state).history
    first = line_goes_on state.history state.reading (line_answer line state) (state_after line state).history (answers_tell line state)

    by : (stopped : Bool) → (state_after line state).arming.stopped ≡ stopped → TakesBy stopped line state printed (Some next) → GoesOn state.history next.history
    by true is restarts = goes_on_then state.history (state_after line state).history next.history first (found_goes_on (state_after line state) next (found_by (state_after line state) next restarts.first restarts.later _ restarts.ending restarts.leaves.is_one restarts.opens restarts.next_is))
    by false is taken = let same : next ≡ state_after line state = cc (taken.1) in subst (λ (s : ScriptState). GoesOn state.history s.history) (sym same) first

pub lead_on : (ls : List Line) (state left : ScriptState) → LeadTo ls state left → GoesOn state.history left.history
lead_on [] state left is = record { later = []; whole = ap (λ (s : ScriptState). s.history) is ∙ sym (append-nil state.history) }
lead_on (line ∷ ls) state left is = goes_on_then state.history is.1.history left.history (takes_go_on line state is.1 is.0 is.2) (lead_on ls is.1 left is.3)

pub acknowledged_stay : AcknowledgedStay
acknowledged_stay line more state left entry is answered =
    let added : (state_after line state).history ≡ after_expiry state.history state.reading ++ entry ∷ [] = subst (λ a. LeavesBy state.history state.reading a (state_after line state).history) is (answers_tell line state) in
    let on = lead_on more (state_after line state) left answered.leads in
    (on.later, on.whole ∙ ap (λ l. l ++ on.later) added)

view_is : (h : List Entry) (reading : ℕ) (patterns : List (List Elem)) (failed : Bool) (view : View) → unless_failed failed (get_answer h reading patterns) ≡ Ok view → (failed ≡ false) × (view ≡ view_of (after_expiry h reading) patterns) × (list_any is_long patterns ≡ false)
view_is h reading patterns true view is = absurd (cc is)
view_is h reading patterns false view is = by (list_any is_long patterns) refl is
  where
    by_found : (none : Bool) → (if none then Err refusals.NotFound else Ok (view_of (after_expiry h reading) patterns)) ≡ Ok view → view ≡ view_of (after_expiry h reading) patterns
    by_found true same = absurd (cc same)
    by_found false same = cc same

    by : (long : Bool) → list_any is_long patterns ≡ long → (if long then Err refusals.BadPath else view_or_not_found (after_expiry h reading) patterns) ≡ Ok view → (false ≡ false) × (view ≡ view_of (after_expiry h reading) patterns) × (list_any is_long patterns ≡ false)
    by true length same = absurd (cc same)
    by false length same = (refl, by_found (list_any (is_empty_part (world_of (after_expiry h reading)).tree) patterns) same, length)

shown_by : (state : ScriptState) (event : Event) (patterns : List (List Elem)) (view : View) → event.request ≡ Get patterns → event.reading ≡ state.reading → request_reply (rules_in state) state.history event.reading event.author event.request (book_behind (Some event) state).failed ≡ OfGet (Ok view) → (view ≡ view_of (after_expiry state.history state.reading) patterns) × ((book_behind (Some event) state).history ≡ after_expiry state.history state.reading)
shown_by state event patterns view asks reading replied =
    let book : BookState = book_behind (Some event) state in
    let got : unless_failed book.failed (get_answer state.history event.reading patterns) ≡ Ok view = (let reply = subst (λ r. request_reply (rules_in state) state.history event.reading event.author r book.failed ≡ OfGet (Ok view)) asks replied in cc reply) in
    let parts = view_is state.history event.reading patterns book.failed view got in
    let done = (event_leaves state event).done parts.0 in
    let meant : history_after (rules_in state) state.history event ≡ after_expiry state.history event.reading =
    ap (λ r. history_after_request (rules_in state) state.history event.reading event.author r) asks ∙ ap (λ b. if b then state.history else after_expiry state.history event.reading) parts.2 in (
      parts.1 ∙ ap (λ now. view_of (after_expiry state.history now) patterns) reading,
      done ∙ meant ∙ ap (after_expiry state.history) reading,
    )

request_is : (request : Request) (rules : Rules) (h : List Entry) (reading author : ℕ) (failed : Bool) (view : View) → request_reply rules h reading author request failed ≡ OfGet (Ok view) → (patterns : List (List Elem)) × (request ≡ Get patterns)
request_is (Set resolved) rules h reading author failed view is = absurd (cc is)
request_is (Get patterns) rules h reading author failed view is = (patterns, refl)

-- a look of a subscription, and what it shows
look_is_event : (line : Line) (state : ScriptState) (patterns : List (List Elem)) → line_look line state ≡ Some patterns → line_event line state ≡ Some (look_event state.reading)
look_is_event (lines.Open author name mode only) state patterns is = ap (λ l. event_of_look l state) is
look_is_event (lines.Turn name) state patterns is = ap (λ l. event_of_look l state) is
look_is_event (lines.Poll name) state patterns is = ap (λ l. event_of_look l state) is
look_is_event (lines.Set author) state patterns is = absurd (cc is)
look_is_event (lines.Get author pattern) state patterns is = absurd (cc is)
look_is_event (lines.Trial author id span) state patterns is = absurd (cc is)
look_is_event (lines.Confirm author id) state patterns is = absurd (cc is)
look_is_event (lines.Cancel author id) state patterns is = absurd (cc is)
look_is_event (lines.Extend author id span) state patterns is = absurd (cc is)
look_is_event (lines.At reading) state patterns is = absurd (cc is)
look_is_event (lines.Add act path value) state patterns is = absurd (cc is)
look_is_event (lines.Sub line) state patterns is = absurd (cc is)
look_is_event (lines.End name) state patterns is = absurd (cc is)
look_is_event (lines.Stop calls fill) state patterns is = absurd (cc is)
look_is_event (lines.Fail calls) state patterns is = absurd (cc is)

seen_by : (failed : Bool) (shown view : View) → unless_failed failed (Ok shown) ≡ Ok view → (failed ≡ false) × (view ≡ shown)
seen_by true shown view is = absurd (cc is)
seen_by false shown view is = (refl, let same : shown ≡ view = cc is in sym same)

record Shown (line : Line) (state : ScriptState) (view : View) : Type 0 where
  patterns : List (List Elem)
  shows : view ≡ view_of (after_expiry state.history state.reading) patterns
  history : (state_after line state).history ≡ after_expiry state.history state.reading

shown_look : (line : Line) (state : ScriptState) (view : View) (patterns : List (List Elem)) → line_look line state ≡ Some patterns → look_answer line state ≡ Ok view → Shown line state view
shown_look line state view patterns some is =
    let event : line_event line state ≡ Some (look_event state.reading) = look_is_event line state patterns some in
    let parts = seen_by (book_behind (line_event line state) state).failed (view_of (after_expiry state.history state.reading) (patterns_in (line_look line state))) view is in
    let fine : (book_behind (Some (look_event state.reading)) state).failed ≡ false = ap (λ e. (book_behind e state).failed) (sym event) ∙ parts.0 in
    record {
      patterns = patterns_in (line_look line state);
      shows = parts.1;
      history = (history_behind_is line state).0 ∙ ap (λ e. (book_behind e state).history) event ∙ (look_leaves state).done fine;
    }

-- which is the part of the state that its line leaves
pub shown_part : (line : Line) (state : ScriptState) (view : View) (patterns : List (List Elem)) → line_look line state ≡ Some patterns → look_answer line state ≡ Ok view → view ≡ view_of (state_after line state).history patterns
shown_part line state view patterns some is =
    let event : line_event line state ≡ Some (look_event state.reading) = look_is_event line state patterns some in
    let parts = seen_by (book_behind (line_event line state) state).failed (view_of (after_expiry state.history state.reading) (patterns_in (line_look line state))) view is in
    let fine : (book_behind (Some (look_event state.reading)) state).failed ≡ false = ap (λ e. (book_behind e state).failed) (sym event) ∙ parts.0 in
    let history : (state_after line state).history ≡ after_expiry state.history state.reading = (history_behind_is line state).0 ∙ ap (λ e. (book_behind e state).history) event ∙ (look_leaves state).done fine in
    parts.1 ∙ ap (λ l. view_of (after_expiry state.history state.reading) (patterns_in l)) some ∙ ap (λ h. view_of h patterns) (sym history)

shown_event : (line : Line) (state : ScriptState) (view : View) (event : Option Event) → line_event line state ≡ event → event_reply event state ≡ Some (OfGet (Ok view)) → Shown line state view
shown_event line state view None none is = absurd (cc is)
shown_event line state view (Some event) some is =
    let replied : request_reply (rules_in state) state.history event.reading event.author event.request (book_behind (Some event) state).failed ≡ OfGet (Ok view) = cc is in
    let request = request_is event.request (rules_in state) state.history event.reading event.author (book_behind (Some event) state).failed view replied in
    let shows = shown_by state event request.0 view request.1 (reading_is line state event some) replied in
    record {
      patterns = request.0;
      shows = shows.0;
      history = (history_behind_is line state).0 ∙ ap (λ e. (book_behind e state).history) some ∙ shows.1;
    }

shown : (line : Line) (state : ScriptState) (view : View) (look : Option (List (List Elem))) → line_look line state ≡ look → look_reply look line state ≡ Some (OfGet (Ok view)) → Shown line state view
shown line state view None none is = shown_event line state view (line_event line state) refl is
shown line state view (Some patterns) some is = let seen : look_answer line state ≡ Ok view = cc is in shown_look line state view patterns some seen

pub shown_stay : ShownStay
shown_stay line more state left view is answered =
    let shows = shown line state view (line_look line state) refl is in
    let on = lead_on more (state_after line state) left answered.leads in
    (shows.patterns, after_expiry state.history state.reading, on.later, shows.shows, on.whole ∙ ap (λ l. l ++ on.later) shows.history)

pub doubts_are_settled : DoubtsAreSettled
doubts_are_settled line state event running is takes fine =
    let book : BookState = book_behind (Some event) state in
    let parts = history_behind_is line state in (
      parts.1 ∙ ap (λ e. (book_behind e state).doubt) is ∙ (event_fine event state running).no_doubt takes fine,
      parts.0 ∙ ap (λ e. (book_behind e state).history) is ∙ (event_leaves state event).done fine,
    )
