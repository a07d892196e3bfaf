-- What holds of every script.
use Rattle.std.proofs.Common.{◌≡◌, ◌≢◌, ◌⊎◌, ℕ, ◌+◌, ◌<◌, List, [], ◌∷◌, ◌++◌, Bool, true, false, Option, Some, None, Result, Ok, Err, refl, sym, ap, ◌∙◌, subst, inl, inr, arith, append-nil, append_assoc, if◌then◌else◌}
use Rattle.std.specs.List.{list_any}
use Rattle.base_kinds.specs.declared.path.Elem.{Elem}
use Rattle.base_kinds.specs.declared.entry.Ask.{Ask}
use Rattle.base_kinds.specs.declared.entry.Entry.{Entry}
use Rattle.base_kinds.specs.declared.entry.Limits.{Limits}
use Rattle.base_kinds.specs.declared.refusal.Refusal.{Refusal}
use Rattle.base_kinds.specs.declared.refusal.Refusal.TheVariants.{DiskFault}
use Rattle.base_kinds.specs.declared.request.UnresolvedSet.{UnresolvedSet}
use Rattle.base_kinds.specs.declared.request.Action.{Action}
use Rattle.base_kinds.specs.declared.request.Action.TheVariants as actions
use Rattle.base_kinds.specs.Bases.{HasSoundTrees}
use Rattle.base_kinds.specs.Events.{Request, Set, Get, Event, Answer, OfSet, OfGet, is_long, set_answer, history_after, history_after_set, history_after_all}
use Rattle.base_kinds.specs.History.{IsHistory, world_of}
use Rattle.base_kinds.specs.Legal.{IsLegal}
use Rattle.base_kinds.specs.Rules.{rules_of}
use Rattle.base_kinds.specs.Schema.{SchemaNode}
use Rattle.base_kinds.specs.Step.{Rules, step, after_expiry, with_answer}
use Rattle.history_laws.specs.LegalLaws.{AsksFit, IsFitEvent, AreFitEvents}
use Rattle.history_laws.proofs.Judged.{events_keep_history}
use Rattle.history_laws.proofs.Given.{base_is_legal, events_are_legal}
use Rattle.history_laws.proofs.SoundTrees.{no_rows_are_sound, legal_trees_are_sound}
use Rattle.disk_model.specs.Arming.{Arming}
use Rattle.set_request.specs.Resolution.{resolved}
use Rattle.script_text.specs.declared.line.Line.{Line}
use Rattle.script_text.specs.declared.line.Line.TheVariants as lines
use Rattle.script_text.specs.Lines.{lines_of}
use Rattle.script_text.proofs.Meanings.{one_meaning}
use Rattle.script_run.specs.Requests.{unresolved_set}
use Rattle.script_run.specs.ScriptOctets.{is_too_long, within_limit}
use Rattle.script_run.specs.ScriptStates.{ScriptState, new_state, rules_in, HasFitAuthor, set_event, event_of_look, line_event, line_look, arming_with, book_in, book_behind, state_after}
use Rattle.book_core.specs.Calls.{expiry_entry}
use Rattle.script_run.specs.AnswerLines.{event_reply, line_answer, line_text, look_reply}
use Rattle.std.specs.List.{AllByRecursion}
use Rattle.script_text.specs.Grammar.{IsLine}
use Rattle.script_run.specs.Restarts.{Takes}
use Rattle.script_run.specs.Scripts.{Ends, Follows, IsTaken, Prints, RunsScript}
use Rattle.script_run.specs.declared.run.ScriptEnd.{ScriptEnd}
use Rattle.script_run.specs.Turns.{BookState, look_event, request_reply, unless_failed}
use Rattle.script_run.specs.laws.ScriptLaws.{HasNoStop, HaveNoStops, LetsRun, NeverStops, state_behind, with_event, script_events, HaveFitAuthors, LetsPass, LetPass, IsQuiet, clock_event, IsDone, AreDone, LeavesBy}
use Rattle.set_request.proofs.FitAsks.{resolved_is_fit}
use Rattle.script_run.proofs.Running.{line_runs, takes_one}
use Rattle.script_run.proofs.Turns.{book, with_entry, expiry_is}
use Rattle.script_run.proofs.TurnHistories.{Leaves, request_turn, request_leaves, quiet, event_quiet}

pub event_leaves : (state : ScriptState) (event : Event) → Leaves state.history event.reading (history_after (rules_in state) state.history event) (book_behind (Some event) state)
event_leaves state event = request_leaves (rules_in state) state.history state.doubt state.arming event.reading event.author event.request

-- ---- events that were done

record Done (rules : Rules) (h left : List Entry) (event : Option Event) (failed : Bool) (others : List Event) : Type 0 where
  events : List Event
  are : IsDone event failed others events
  whole : history_after_all rules left others ≡ history_after_all rules h events

done_event : (rules : Rules) (h : List Entry) (event : Event) (failed : Bool) (left : List Entry) (others : List Event) → (failed ≡ false → left ≡ history_after rules h event) → (failed ≡ true → (left ≡ h) ⊎ (left ≡ after_expiry h event.reading)) → Done rules h left (Some event) failed others
done_event rules h event false left others done cut = record { events = event ∷ others; are = refl; whole = ap (λ l. history_after_all rules l others) (done refl) }
done_event rules h event true left others done cut = by (cut refl)
  where
    by : (left ≡ h) ⊎ (left ≡ after_expiry h event.reading) → Done rules h left (Some event) true others
    by (inl same) = record { events = others; are = inl refl; whole = ap (λ l. history_after_all rules l others) same }
    by (inr behind) = record { events = clock_event event ∷ others; are = inr refl; whole = ap (λ l. history_after_all rules l others) behind }

done_first : (event : Option Event) (state : ScriptState) (others : List Event) → Done (rules_in state) state.history (book_behind event state).history event (book_behind event state).failed others
done_first None state others = record { events = others; are = refl; whole = refl }
done_first (Some event) state others =
    let left : BookState = book_behind (Some event) state in
    let leaves = event_leaves state event in
    done_event (rules_in state) state.history event left.failed left.history others leaves.done leaves.cut

pub makes_done : (ls : List Line) (state : ScriptState) → (done : List Event) × AreDone ls state done × ((state_behind ls state).history ≡ history_after_all (rules_in state) state.history done)
unfolding state_after
makes_done [] state = ([], refl, refl)
makes_done (line ∷ ls) state =
    let rest = makes_done ls (state_after line state) in
    let first = done_first (line_event line state) state rest.0 in
    (first.events, (rest.0, first.are, rest.1), rest.2 ∙ first.whole)

pub makes_histories : (schema : List SchemaNode) (limits : Limits) (ls : List Line) → IsHistory (state_behind ls (new_state schema limits)).history
makes_histories schema limits ls =
    let made = makes_done ls (new_state schema limits) in
    subst IsHistory (sym made.2) (events_keep_history (rules_of schema limits) [] made.0 tt)

-- ---- legal histories

asks_fit : (schema : List SchemaNode) (ask : UnresolvedSet) (request : Result Ask Refusal) → resolved schema ask ≡ request → AsksFit request
asks_fit schema ask (Ok it) is = resolved_is_fit schema ask it is
asks_fit schema ask (Err refusal) is = tt

abbrev IsFitIfAny : Option Event → Type 0
IsFitIfAny None = Unit {0}
IsFitIfAny (Some event) = IsFitEvent event

set_fits : (state : ScriptState) (author : ℕ) (action : Action) → 0 < author → IsFitEvent (set_event state author action)
set_fits state author action counts =
    record { author = omega (arith, counts); request_fits = asks_fit state.schema (unresolved_set action state.pending) (resolved state.schema (unresolved_set action state.pending)) refl }

look_fits : (look : Option (List (List Elem))) (state : ScriptState) → IsFitIfAny (event_of_look look state)
look_fits None state = tt
look_fits (Some patterns) state = record { author = omega arith; request_fits = tt }

event_fits : (line : Line) (state : ScriptState) → HasFitAuthor line → IsFitIfAny (line_event line state)
event_fits (lines.Set author) state counts = set_fits state author actions.Plain counts
event_fits (lines.Get author pattern) state counts = record { author = omega (arith, counts); request_fits = tt }
event_fits (lines.Trial author id span) state counts = set_fits state author (actions.Trial id span) counts
event_fits (lines.Confirm author id) state counts = set_fits state author (actions.Confirm id) counts
event_fits (lines.Cancel author id) state counts = set_fits state author (actions.Cancel id) counts
event_fits (lines.Extend author id span) state counts = set_fits state author (actions.Extend id span) counts
event_fits (lines.At reading) state counts = tt
event_fits (lines.Add act path value) state counts = tt
event_fits (lines.Sub line) state counts = tt
event_fits (lines.Open author name mode only) state counts = look_fits (line_look (lines.Open author name mode only) state) state
event_fits (lines.Turn name) state counts = look_fits (line_look (lines.Turn name) state) state
event_fits (lines.Poll name) state counts = look_fits (line_look (lines.Poll name) state) state
event_fits (lines.End name) state counts = tt
event_fits (lines.Stop calls fill) state counts = tt
event_fits (lines.Fail calls) state counts = tt

with_fit : (event : Option Event) (failed : Bool) (others done : List Event) → IsFitIfAny event → AreFitEvents others → IsDone event failed others done → AreFitEvents done
with_fit None failed others done fit rest is = subst AreFitEvents (sym is) rest
with_fit (Some event) false others done fit rest is = subst AreFitEvents (sym is) (fit, rest)
with_fit (Some event) true others done fit rest (inl is) = subst AreFitEvents (sym is) rest
with_fit (Some event) true others done fit rest (inr is) = subst AreFitEvents (sym is) (record { author = fit.author; request_fits = tt }, rest)

done_fit : (ls : List Line) (state : ScriptState) (done : List Event) → HaveFitAuthors ls → AreDone ls state done → AreFitEvents done
done_fit [] state done have is = subst AreFitEvents (sym is) tt
done_fit (line ∷ ls) state done have is =
    with_fit (line_event line state) (book_behind (line_event line state) state).failed is.0 done (event_fits line state have.0) (done_fit ls (state_after line state) is.0 have.1 is.2) is.1

pub makes_legal_histories : (schema : List SchemaNode) (limits : Limits) (ls : List Line) → HaveFitAuthors ls → IsLegal (rules_of schema limits) [] (state_behind ls (new_state schema limits)).history
makes_legal_histories schema limits ls have =
    let rules = rules_of schema limits in
    let made = makes_done ls (new_state schema limits) in
    subst (IsLegal rules []) (sym made.2) (events_are_legal rules [] [] made.0 tt (done_fit ls (new_state schema limits) made.0 have made.1) (base_is_legal rules []))

pub makes_sound_trees : (schema : List SchemaNode) (limits : Limits) (ls : List Line) → HaveFitAuthors ls → HasSoundTrees schema (world_of (state_behind ls (new_state schema limits)).history)
makes_sound_trees schema limits ls have =
    legal_trees_are_sound schema limits [] (state_behind ls (new_state schema limits)).history (record { tree = no_rows_are_sound schema; before = tt }) (makes_legal_histories schema limits ls have)

-- ---- without `fail` and `stop` lines

abbrev pub history_behind : Rules → List Entry → Option Event → List Entry
history_behind rules h None = h
history_behind rules h (Some event) = history_after rules h event

book_quiet : (state : ScriptState) → IsQuiet state → book_in state ≡ quiet state.history
book_quiet state is = ap (λ d. book state.history d state.arming false) is.doubt ∙ ap (λ a. book state.history None a false) is.arming

pub behind_quiet : (event : Option Event) (state : ScriptState) → IsQuiet state → book_behind event state ≡ quiet (history_behind (rules_in state) state.history event)
behind_quiet None state is = book_quiet state is
behind_quiet (Some event) state is = ap (λ b. book_behind (Some event) (record state { history = b.history; doubt = b.doubt; arming = b.arming })) (book_quiet state is) ∙ event_quiet (rules_in state) state.history event

arming_same : (line : Line) (arming : Arming) → LetsPass line → arming_with line arming ≡ arming
arming_same (lines.Set author) arming lets = refl
arming_same (lines.Get author pattern) arming lets = refl
arming_same (lines.Trial author id span) arming lets = refl
arming_same (lines.Confirm author id) arming lets = refl
arming_same (lines.Cancel author id) arming lets = refl
arming_same (lines.Extend author id span) arming lets = refl
arming_same (lines.At reading) arming lets = refl
arming_same (lines.Add act path value) arming lets = refl
arming_same (lines.Sub line) arming lets = refl
arming_same (lines.Open author name mode only) arming lets = refl
arming_same (lines.Turn name) arming lets = refl
arming_same (lines.Poll name) arming lets = refl
arming_same (lines.End name) arming lets = refl
arming_same (lines.Stop calls fill) arming lets = absurd lets
arming_same (lines.Fail calls) arming lets = absurd lets

pub stays_quiet : (line : Line) (state : ScriptState) → LetsPass line → IsQuiet state → IsQuiet (state_after line state)
unfolding state_after
stays_quiet line state lets is =
    let left = behind_quiet (line_event line state) state is in
    record {
      doubt = ap (λ (b : BookState). b.doubt) left;
      arming = arming_same line (book_behind (line_event line state) state).arming lets ∙ ap (λ (b : BookState). b.arming) left;
    }

one_event : (rules : Rules) (h : List Entry) (event : Option Event) (events : List Event) → history_after_all rules (history_behind rules h event) events ≡ history_after_all rules h (with_event event events)
one_event rules h None events = refl
one_event rules h (Some event) events = refl

pub makes_events : (ls : List Line) (state : ScriptState) → LetPass ls → IsQuiet state → (state_behind ls state).history ≡ history_after_all (rules_in state) state.history (script_events ls state)
unfolding state_after
makes_events [] state lets is = refl
makes_events (line ∷ ls) state lets is =
    let events = script_events ls (state_after line state) in
    makes_events ls (state_after line state) lets.1 (stays_quiet line state lets.0 is)
    ∙ ap (λ (b : BookState). history_after_all (rules_in state) b.history events) (behind_quiet (line_event line state) state is)
    ∙ one_event (rules_in state) state.history (line_event line state) events

-- ---- one text

ends_one : (more : Bool) (number : ℕ) (state : ScriptState) (text text' : List ℕ) (ending ending' : ScriptEnd) → Ends more number state text ending → Ends more number state text' ending' → (text ≡ text') × (ending ≡ ending')
ends_one true number state text text' ending ending' p q = (p.0 ∙ sym q.0, p.1 ∙ sym q.1)
ends_one false number state text text' ending ending' p q = (p.0 ∙ sym q.0, p.1 ∙ sym q.1)

-- what a line prints that doesn't let the disk stop, and that what follows it prints the rest
record TakenSo (more : Bool) (number : ℕ) (others : List (List ℕ)) (line : Line) (state : ScriptState) (text : List ℕ) (ending : ScriptEnd) : Type 0 where
  rest : List ℕ
  whole : text ≡ line_text line state ++ rest
  goes_on : Prints more (number + 1) others (state_after line state) rest ending

taken_so : (more : Bool) (number : ℕ) (octets : List ℕ) (others : List (List ℕ)) (state : ScriptState) (text : List ℕ) (ending : ScriptEnd) (line : Line) → IsLine octets line → LetsRun line → NeverStops state.arming → IsTaken octets state text (Follows (λ next rest. Prints more (number + 1) others next rest ending) ending) → TakenSo more number others line state text ending
taken_so more number octets others state text ending line meaning lets never is =
    let same : is.line ≡ line = one_meaning octets is.line line is.meaning meaning in
    let one = takes_one line state is.printed is.next lets never (subst (λ (l : Line). Takes l state is.printed is.next) same is.takes) in
    record {
      rest = is.rest;
      whole = is.whole ∙ ap (λ t. t ++ is.rest) one.0;
      goes_on = subst (λ n. Follows (λ next rest. Prints more (number + 1) others next rest ending) ending n is.rest) one.1 is.goes_on;
    }

prints_one : (more : Bool) (number : ℕ) (octets : List (List ℕ)) (state : ScriptState) (text text' : List ℕ) (ending ending' : ScriptEnd) → AllByRecursion HasNoStop octets → NeverStops state.arming → Prints more number octets state text ending → Prints more number octets state text' ending' → (text ≡ text') × (ending ≡ ending')
prints_one more number [] state text text' ending ending' none never p q = ends_one more number state text text' ending ending' p q
prints_one more number (first ∷ others) state text text' ending ending' none never (inl p) (inl q) =
    let lets = none.0 p.line p.meaning in
    let one = taken_so more number first others state text ending p.line p.meaning lets never p in
    let other = taken_so more number first others state text' ending' p.line p.meaning lets never q in
    let both = prints_one more (number + 1) others (state_after p.line state) one.rest other.rest ending ending' none.1 (line_runs p.line state lets never) one.goes_on other.goes_on in
    (one.whole ∙ ap (λ r. line_text p.line state ++ r) both.0 ∙ sym other.whole, both.1)
prints_one more number (first ∷ others) state text text' ending ending' none never (inl p) (inr q) = absurd (q.0 p.line p.meaning)
prints_one more number (first ∷ others) state text text' ending ending' none never (inr p) (inl q) = absurd (p.0 q.line q.meaning)
prints_one more number (first ∷ others) state text text' ending ending' none never (inr p) (inr q) = (p.1 ∙ sym q.1, p.2 ∙ sym q.2)

pub fresh_never_stops : (schema : List SchemaNode) (limits : Limits) → NeverStops (new_state schema limits).arming
fresh_never_stops schema limits = record { stops = refl; stopped = refl }

pub prints_one_text : (schema : List SchemaNode) (limits : Limits) (script text text' : List ℕ) (ending ending' : ScriptEnd) → HaveNoStops script → RunsScript schema limits script text ending → RunsScript schema limits script text' ending' → (text ≡ text') × (ending ≡ ending')
unfolding RunsScript
prints_one_text schema limits script text text' ending ending' none p q = prints_one (is_too_long script) 1 (lines_of (within_limit script)) (new_state schema limits) text text' ending ending' none (fresh_never_stops schema limits) p q

-- ---- what an answer says of the history

abbrev IsCut : List Entry → ℕ → List Entry → Type 0
IsCut h reading left = (left ≡ h) ⊎ (left ≡ after_expiry h reading)

set_done : (rules : Rules) (h : List Entry) (reading author : ℕ) (request : Result Ask Refusal) (left : List Entry) → left ≡ history_after_set rules h reading author request → LeavesBy h reading (Some (OfSet (set_answer rules h reading author request))) left
set_done rules h reading author (Ok ask) left is = by (step rules h reading author ask) is
  where
    by : (answer : Result Entry Refusal) → left ≡ with_answer (after_expiry h reading) answer → LeavesBy h reading (Some (OfSet answer)) left
    by (Ok entry) same = same
    by (Err refusal) same = inr same
set_done rules h reading author (Err refusal) left is = inl is

set_tells : (h : List Entry) (reading : ℕ) (failed : Bool) (answer : Result Entry Refusal) (left : List Entry) → (failed ≡ true → IsCut h reading left) → (failed ≡ false → LeavesBy h reading (Some (OfSet answer)) left) → LeavesBy h reading (Some (OfSet (unless_failed failed answer))) left
set_tells h reading true answer left cut done = cut refl
set_tells h reading false answer left cut done = done refl

get_tells : (h : List Entry) (reading : ℕ) (failed long : Bool) (left : List Entry) → (failed ≡ true → IsCut h reading left) → (failed ≡ false → left ≡ (if long then h else after_expiry h reading)) → IsCut h reading left
get_tells h reading true long left cut done = cut refl
get_tells h reading false true left cut done = inl (done refl)
get_tells h reading false false left cut done = inr (done refl)

tells : (rules : Rules) (h : List Entry) (doubt : Option Entry) (arming : Arming) (reading author : ℕ) (request : Request) → let left = request_turn rules h doubt arming reading author request in LeavesBy h reading (Some (request_reply rules h reading author request left.failed)) left.history
tells rules h doubt arming reading author (Set request) =
    let left : BookState = request_turn rules h doubt arming reading author (Set request) in
    let leaves = request_leaves rules h doubt arming reading author (Set request) in
    set_tells h reading left.failed (set_answer rules h reading author request) left.history leaves.cut (λ is. set_done rules h reading author request left.history (leaves.done is))
tells rules h doubt arming reading author (Get patterns) =
    let left : BookState = request_turn rules h doubt arming reading author (Get patterns) in
    let leaves = request_leaves rules h doubt arming reading author (Get patterns) in
    get_tells h reading left.failed (list_any is_long patterns) left.history leaves.cut leaves.done

event_tells : (state : ScriptState) (author : ℕ) (request : Request) → let left = request_turn (rules_in state) state.history state.doubt state.arming state.reading author request in LeavesBy state.history state.reading (Some (request_reply (rules_in state) state.history state.reading author request left.failed)) left.history
event_tells state author request = tells (rules_in state) state.history state.doubt state.arming state.reading author request

-- a look leaves the event of the clock, or where a call of the disk failed perhaps not even that
pub look_leaves : (state : ScriptState) → Leaves state.history state.reading (after_expiry state.history state.reading) (book_behind (Some (look_event state.reading)) state)
look_leaves state = event_leaves state (look_event state.reading)

cut_by_look : (state : ScriptState) → IsCut state.history state.reading (book_behind (Some (look_event state.reading)) state).history
cut_by_look state = by (book_behind (Some (look_event state.reading)) state).failed refl
  where
    by : (failed : Bool) → (book_behind (Some (look_event state.reading)) state).failed ≡ failed → IsCut state.history state.reading (book_behind (Some (look_event state.reading)) state).history
    by true is = (look_leaves state).cut is
    by false is = inr ((look_leaves state).done is)

look_tells : (line : Line) (state : ScriptState) (look : Option (List (List Elem))) → line_event line state ≡ event_of_look look state → LeavesBy state.history state.reading (look_reply look line state) (book_behind (event_of_look look state) state).history
look_tells line state None is = subst (λ e. LeavesBy state.history state.reading (event_reply e state) state.history) (sym is) refl
look_tells line state (Some patterns) is = cut_by_look state

pub answers_tell : (line : Line) (state : ScriptState) → LeavesBy state.history state.reading (line_answer line state) (state_after line state).history
unfolding state_after
answers_tell (lines.Set author) state = event_tells state author (set_event state author actions.Plain).request
answers_tell (lines.Get author pattern) state = event_tells state author (Get (pattern ∷ []))
answers_tell (lines.Trial author id span) state = event_tells state author (set_event state author (actions.Trial id span)).request
answers_tell (lines.Confirm author id) state = event_tells state author (set_event state author (actions.Confirm id)).request
answers_tell (lines.Cancel author id) state = event_tells state author (set_event state author (actions.Cancel id)).request
answers_tell (lines.Extend author id span) state = event_tells state author (set_event state author (actions.Extend id span)).request
answers_tell (lines.At reading) state = refl
answers_tell (lines.Add act path value) state = refl
answers_tell (lines.Sub line) state = refl
answers_tell (lines.Open author name mode only) state = look_tells (lines.Open author name mode only) state (line_look (lines.Open author name mode only) state) refl
answers_tell (lines.Turn name) state = look_tells (lines.Turn name) state (line_look (lines.Turn name) state) refl
answers_tell (lines.Poll name) state = look_tells (lines.Poll name) state (line_look (lines.Poll name) state) refl
answers_tell (lines.End name) state = refl
answers_tell (lines.Stop calls fill) state = refl
answers_tell (lines.Fail calls) state = refl

-- ---- what was accepted stays

pub record GoesOn (h left : List Entry) : Type 0 where
  pub later : List Entry
  pub whole : left ≡ h ++ later

entry_goes_on : (h : List Entry) (entry : Option Entry) → GoesOn h (with_entry h entry)
entry_goes_on h None = record { later = []; whole = sym (append-nil h) }
entry_goes_on h (Some entry) = record { later = entry ∷ []; whole = refl }

pub goes_on_then : (a b c : List Entry) → GoesOn a b → GoesOn b c → GoesOn a c
goes_on_then a b c first second = record { later = first.later ++ second.later; whole = second.whole ∙ ap (λ l. l ++ second.later) first.whole ∙ append_assoc a first.later second.later }

expiry_goes_on : (h : List Entry) (reading : ℕ) → GoesOn h (after_expiry h reading)
expiry_goes_on h reading = subst (GoesOn h) (expiry_is h reading) (entry_goes_on h (expiry_entry h reading))

cut_goes_on : (h : List Entry) (reading : ℕ) (left : List Entry) → IsCut h reading left → GoesOn h left
cut_goes_on h reading left (inl same) = record { later = []; whole = same ∙ sym (append-nil h) }
cut_goes_on h reading left (inr behind) = subst (GoesOn h) (sym behind) (expiry_goes_on h reading)

pub line_goes_on : (h : List Entry) (reading : ℕ) (answer : Option Answer) (left : List Entry) → LeavesBy h reading answer left → GoesOn h left
line_goes_on h reading (Some (OfSet (Ok entry))) left is = goes_on_then h (after_expiry h reading) left (expiry_goes_on h reading) (record { later = entry ∷ []; whole = is })
line_goes_on h reading (Some (OfSet (Err refusal))) left is = cut_goes_on h reading left is
line_goes_on h reading (Some (OfGet view)) left is = cut_goes_on h reading left is
line_goes_on h reading None left is = record { later = []; whole = is ∙ sym (append-nil h) }

lines_go_on : (ls : List Line) (state : ScriptState) → GoesOn state.history (state_behind ls state).history
lines_go_on [] state = record { later = []; whole = sym (append-nil state.history) }
lines_go_on (line ∷ ls) state =
    goes_on_then state.history (state_after line state).history (state_behind ls (state_after line state)).history (line_goes_on state.history state.reading (line_answer line state) (state_after line state).history (answers_tell line state)) (lines_go_on ls (state_after line state))

pub accepted_stay : (line : Line) (more : List Line) (state : ScriptState) (entry : Entry) → line_answer line state ≡ Some (OfSet (Ok entry)) → (later : List Entry) × ((state_behind more (state_after line state)).history ≡ (after_expiry state.history state.reading ++ entry ∷ []) ++ later)
accepted_stay line more state entry is =
    let added : (state_after line state).history ≡ after_expiry state.history state.reading ++ entry ∷ [] = subst (λ a. LeavesBy state.history state.reading a (state_after line state).history) is (answers_tell line state) in
    let on = lines_go_on more (state_after line state) in
    (on.later, on.whole ∙ ap (λ l. l ++ on.later) added)

-- ---- refusals

abbrev reading_of : Option Event → ℕ
reading_of None = 0
reading_of (Some event) = event.reading

look_reading : (look : Option (List (List Elem))) (state : ScriptState) (event : Event) → event_of_look look state ≡ Some event → event.reading ≡ state.reading
look_reading None state event is = cc is
look_reading (Some patterns) state event is = sym (ap reading_of is)

pub reading_is : (line : Line) (state : ScriptState) (event : Event) → line_event line state ≡ Some event → event.reading ≡ state.reading
reading_is (lines.Set author) state event is = sym (ap reading_of is)
reading_is (lines.Get author pattern) state event is = sym (ap reading_of is)
reading_is (lines.Trial author id span) state event is = sym (ap reading_of is)
reading_is (lines.Confirm author id) state event is = sym (ap reading_of is)
reading_is (lines.Cancel author id) state event is = sym (ap reading_of is)
reading_is (lines.Extend author id span) state event is = sym (ap reading_of is)
reading_is (lines.At reading) state event is = cc is
reading_is (lines.Add act path value) state event is = cc is
reading_is (lines.Sub line) state event is = cc is
reading_is (lines.Open author name mode only) state event is = look_reading (line_look (lines.Open author name mode only) state) state event is
reading_is (lines.Turn name) state event is = look_reading (line_look (lines.Turn name) state) state event is
reading_is (lines.Poll name) state event is = look_reading (line_look (lines.Poll name) state) state event is
reading_is (lines.End name) state event is = cc is
reading_is (lines.Stop calls fill) state event is = cc is
reading_is (lines.Fail calls) state event is = cc is

event_lets_pass : (line : Line) (state : ScriptState) (event : Event) → line_event line state ≡ Some event → LetsPass line
event_lets_pass (lines.Fail calls) state event is = cc is
event_lets_pass (lines.Set author) state event is = tt
event_lets_pass (lines.Get author pattern) state event is = tt
event_lets_pass (lines.Trial author id span) state event is = tt
event_lets_pass (lines.Confirm author id) state event is = tt
event_lets_pass (lines.Cancel author id) state event is = tt
event_lets_pass (lines.Extend author id span) state event is = tt
event_lets_pass (lines.At reading) state event is = tt
event_lets_pass (lines.Add act path value) state event is = tt
event_lets_pass (lines.Sub line) state event is = tt
event_lets_pass (lines.Open author name mode only) state event is = tt
event_lets_pass (lines.Turn name) state event is = tt
event_lets_pass (lines.Poll name) state event is = tt
event_lets_pass (lines.End name) state event is = tt
event_lets_pass (lines.Stop calls fill) state event is = cc is

unless_refused : (failed : Bool) (answer : Result Entry Refusal) (refusal : Refusal) → unless_failed failed answer ≡ Err refusal → refusal ≢ DiskFault → (failed ≡ false) × (answer ≡ Err refusal)
unless_refused true answer refusal is other = absurd (other (cc is))
unless_refused false answer refusal is other = (refl, is)

refused_request : (rules : Rules) (h : List Entry) (doubt : Option Entry) (arming : Arming) (reading author : ℕ) (ask : Ask) (refusal : Refusal) (request : Request) → Set (Ok ask) ≡ request → request_reply rules h reading author request (request_turn rules h doubt arming reading author request).failed ≡ OfSet (Err refusal) → refusal ≢ DiskFault → (request_turn rules h doubt arming reading author request).history ≡ after_expiry h reading
refused_request rules h doubt arming reading author ask refusal request is replied other =
    subst (λ r. request_reply rules h reading author r (request_turn rules h doubt arming reading author r).failed ≡ OfSet (Err refusal) → (request_turn rules h doubt arming reading author r).history ≡ after_expiry h reading) is here replied
  where
    here : request_reply rules h reading author (Set (Ok ask)) (request_turn rules h doubt arming reading author (Set (Ok ask))).failed ≡ OfSet (Err refusal) → (request_turn rules h doubt arming reading author (Set (Ok ask))).history ≡ after_expiry h reading
    here same =
        let left : BookState = request_turn rules h doubt arming reading author (Set (Ok ask)) in
        let leaves = request_leaves rules h doubt arming reading author (Set (Ok ask)) in
        let parts = unless_refused left.failed (step rules h reading author ask) refusal (cc same) other in
        leaves.done parts.0 ∙ ap (with_answer (after_expiry h reading)) parts.1

one_answer : (x y : Answer) → Some x ≡ Some y → x ≡ y
one_answer x y is = cc is

-- a Set is answered as the event that it is
abbrev request_or_none : Option Event → Request
request_or_none None = Get []
request_or_none (Some event) = event.request

look_no_set : (look : Option (List (List Elem))) (state : ScriptState) (event : Event) (request : Result Ask Refusal) → event_of_look look state ≡ Some event → event.request ≡ Set request → ⊥
look_no_set None state event request is asks = cc is
look_no_set (Some patterns) state event request is asks = let both : Get [] ≡ Set request = ap request_or_none is ∙ asks in cc both

pub set_answered : (line : Line) (state : ScriptState) (event : Event) (request : Result Ask Refusal) → line_event line state ≡ Some event → event.request ≡ Set request → line_answer line state ≡ event_reply (Some event) state
set_answered (lines.Open author name mode only) state event request is asks = absurd (look_no_set (line_look (lines.Open author name mode only) state) state event request is asks)
set_answered (lines.Turn name) state event request is asks = absurd (look_no_set (line_look (lines.Turn name) state) state event request is asks)
set_answered (lines.Poll name) state event request is asks = absurd (look_no_set (line_look (lines.Poll name) state) state event request is asks)
set_answered line state event request is asks = ap (λ e. event_reply e state) is

pub refused_changes_nothing : (line : Line) (state : ScriptState) (event : Event) (ask : Ask) (refusal : Refusal) → line_event line state ≡ Some event → event.request ≡ Set (Ok ask) → line_answer line state ≡ Some (OfSet (Err refusal)) → refusal ≢ DiskFault → (state_after line state).history ≡ after_expiry state.history state.reading
unfolding state_after
refused_changes_nothing line state event ask refusal is asks answered other =
    let reply : Answer = request_reply (rules_in state) state.history event.reading event.author event.request (book_behind (Some event) state).failed in
    let replied : reply ≡ OfSet (Err refusal) = one_answer reply (OfSet (Err refusal)) (sym (set_answered line state event (Ok ask) is asks) ∙ answered) in
    ap (λ e. (book_behind e state).history) is
    ∙ refused_request (rules_in state) state.history state.doubt state.arming event.reading event.author ask refusal event.request (sym asks) replied other
    ∙ ap (after_expiry state.history) (reading_is line state event is)

bad_request : (rules : Rules) (h : List Entry) (doubt : Option Entry) (arming : Arming) (reading author : ℕ) (refusal : Refusal) (request : Request) → Set (Err refusal) ≡ request → request_turn rules h doubt arming reading author request ≡ book h doubt arming false
bad_request rules h doubt arming reading author refusal request is = subst (λ r. request_turn rules h doubt arming reading author r ≡ book h doubt arming false) is refl

pub bad_request_changes_nothing : (line : Line) (state : ScriptState) (event : Event) (refusal : Refusal) → line_event line state ≡ Some event → event.request ≡ Set (Err refusal) → ((state_after line state).history ≡ state.history) × ((state_after line state).doubt ≡ state.doubt) × ((state_after line state).arming ≡ state.arming)
unfolding state_after
bad_request_changes_nothing line state event refusal is asks =
    let left : book_behind (line_event line state) state ≡ book_in state = ap (λ e. book_behind e state) is ∙ bad_request (rules_in state) state.history state.doubt state.arming event.reading event.author refusal event.request (sym asks) in
    (ap (λ (b : BookState). b.history) left, ap (λ (b : BookState). b.doubt) left, arming_same line (book_behind (line_event line state) state).arming (event_lets_pass line state event is) ∙ ap (λ (b : BookState). b.arming) left)
