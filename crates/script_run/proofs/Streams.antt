-- The streams of a script, line by line.
use Rattle.std.proofs.Common.{◌≡◌, ◌≤◌, ℕ, zero, suc, List, [], ◌∷◌, ◌++◌, length, take, drop, position, Bool, true, false, is_some, Option, Some, None, option_map, Result, Ok, Err, refl, sym, ap, ◌∙◌, subst, if◌then◌else◌}
use Rattle.std.proofs.Math.Nat.{le_refl}
use Rattle.base_kinds.specs.declared.path.Elem.{Elem}
use Rattle.base_kinds.specs.declared.entry.Entry.{Entry}
use Rattle.base_kinds.specs.declared.entry.View.{View}
use Rattle.base_kinds.specs.declared.refusal.Refusal.{Refusal}
use Rattle.base_kinds.specs.declared.request.ListMode.{ListMode}
use Rattle.base_kinds.specs.declared.request.ListMode.TheVariants as modes
use Rattle.base_kinds.specs.declared.request.Note.{Note}
use Rattle.base_kinds.specs.declared.request.SubLine.{SubLine}
use Rattle.base_kinds.specs.Events.{view_of}
use Rattle.gnmi_kinds.specs.declared.reply.SubReply.TheVariants.{Sync}
use Rattle.sub_plan.specs.declared.plan.Line.{Line as PlanLine}
use Rattle.sub_plan.specs.declared.plan.Plan.{Plan}
use Rattle.sub_plan.specs.Groups.{patterns_of}
use Rattle.sub_plan.specs.Plans.{plan_of}
use Rattle.stream_laws.specs.Folds.{last_moment}
use Rattle.stream_laws.specs.Follows.{IsStreamAt, first_moment, messages_at, moment_of, started_messages}
use Rattle.stream_laws.specs.Notes.{note_of}
use Rattle.stream_laws.specs.Runs.{GoOn, Moment, first_messages, note_messages, view_at}
use Rattle.stream_laws.specs.Streams.{StreamView, begins_with, stream_after, stream_from, turn_input_of}
use Rattle.stream_laws.proofs.Following.{runs_begin, runs_stay, starts_say, turns_go_on}
use Rattle.script_text.specs.declared.line.Line.{Line}
use Rattle.script_text.specs.declared.line.Line.TheVariants as lines
use Rattle.script_run.specs.AnswerLines.{line_answer}
use Rattle.script_run.specs.CallViews.{PollCall, StreamCall}
use Rattle.script_run.specs.OpenCalls.{call_at, call_named, has_name, with_call, without_call, without_place}
use Rattle.script_run.specs.Restarts.{Takes, TakesBy, restarted_state}
use Rattle.script_run.specs.ScriptStates.{ScriptState, new_state, line_look, line_step, look_answer, state_after}
use Rattle.script_run.specs.Stops.{Restarted}
use Rattle.script_run.specs.declared.subscribing.CallReply.TheVariants as replies
use Rattle.script_run.specs.Subscribing.{CallStep, step_with, calls_left, end_step, open_by, once_reply, open_look, open_planned, open_step, planned_look, poll_look, poll_step, poll_turn, stream_turn, sub_ask, turn_look, turn_step}
use Rattle.script_run.specs.declared.calls.NamedCall.{NamedCall}
use Rattle.script_run.specs.declared.calls.OpenCall.{OpenCall}
use Rattle.script_run.specs.declared.calls.OpenCall.TheVariants as opened
use Rattle.script_run.specs.laws.ScriptLaws.{LeadTo}
use Rattle.script_run.specs.laws.StreamLaws.{AreOver, Begins, IsCallOver, IsRunOver, OnceSays, OpensSay, PollsSay, RunsAreKept, StreamsAreRuns, TurnsSay}
use Rattle.script_run.proofs.Crashes.{lead_on, shown_part}
use Rattle.script_run.proofs.ScriptLaws.{GoesOn, answers_tell, line_goes_on}

-- ---- one stream

take_whole : {A : Type 0} (items : List A) → take (length items) items ≡ items
take_whole [] = refl
take_whole (item ∷ items) = ap (λ rest. item ∷ rest) (take_whole items)

last_inside : (most time : ℕ) (first : Moment) (later : List Moment) → first.position ≤ most → GoOn most time first.position later → (last_moment first later).position ≤ most
last_inside most time first [] inside go = inside
last_inside most time first (moment ∷ moments) inside go = last_inside most moment.time moment moments go.2 go.3

at_end : (plan_lines : List PlanLine) (h : List Entry) → view_at plan_lines h (length h) ≡ view_of h (patterns_of plan_lines)
at_end plan_lines h = ap (λ (front : List Entry). view_of front (patterns_of plan_lines)) (take_whole h)

run_begins : (plan : Plan) (h : List Entry) (now : ℕ) (view : View) → view ≡ view_of h (patterns_of plan.lines) → IsRunOver h (stream_from plan now view)
run_begins plan h now view is =
    subst (λ (v : View). IsRunOver h (stream_from plan now v)) (at_end plan.lines h ∙ sym is)
    (record {
      plan = plan;
      first = first_moment now (length h);
      later = [];
      messages = first_messages plan.updates_only (view_at plan.lines h (length h));
      at = runs_begin plan h now (length h) (le_refl (length h));
    })

run_goes_on : (h : List Entry) (stream : StreamView) (now : ℕ) (view : View) → view ≡ view_of h (patterns_of stream.lines) → IsRunOver h stream → IsRunOver h (stream_after stream now view)
run_goes_on h stream now view is over =
    let here : view_at over.plan.lines h (length h) ≡ view = at_end over.plan.lines h ∙ ap (λ ls. view_of h (patterns_of ls)) (sym over.at.lines) ∙ sym is in
    subst (λ (v : View). IsRunOver h (stream_after stream now v)) here
    (record {
      plan = over.plan;
      first = over.first;
      later = over.later ++ moment_of stream now (length h) ∷ [];
      messages = over.messages ++ messages_at stream now (view_at over.plan.lines h (length h));
      at = turns_go_on over.plan over.first over.later over.messages h stream now (length h) over.at
          (last_inside (length h) over.first.time over.first over.later over.at.run.inside over.at.run.go_on) (le_refl (length h));
    })

run_stays : (h more : List Entry) (stream : StreamView) → IsRunOver h stream → IsRunOver (h ++ more) stream
run_stays h more stream over = record {
  plan = over.plan;
  first = over.first;
  later = over.later;
  messages = over.messages;
  at = runs_stay over.plan over.first over.later over.messages h more stream over.at;
}

call_stays : (h more : List Entry) (call : OpenCall) → IsCallOver h call → IsCallOver (h ++ more) call
call_stays h more (opened.Stream call) over = run_stays h more call.stream over
call_stays h more (opened.Poll call) over = tt

all_stay : (h more : List Entry) (calls : List NamedCall) → AreOver h calls → AreOver (h ++ more) calls
all_stay h more [] all = tt
all_stay h more (call ∷ calls) all = (call_stays h more call.call all.0, all_stay h more calls all.1)

-- ---- the list of calls

module _ (h : List Entry) where
  all_both : (xs ys : List NamedCall) → AreOver h xs → AreOver h ys → AreOver h (xs ++ ys)
  all_both [] ys first second = second
  all_both (x ∷ xs) ys first second = (first.0, all_both xs ys first.1 second)

  all_take : (n : ℕ) (xs : List NamedCall) → AreOver h xs → AreOver h (take n xs)
  all_take zero xs all = tt
  all_take (suc n) [] all = tt
  all_take (suc n) (x ∷ xs) all = (all.0, all_take n xs all.1)

  all_drop : (n : ℕ) (xs : List NamedCall) → AreOver h xs → AreOver h (drop n xs)
  all_drop zero xs all = all
  all_drop (suc n) [] all = tt
  all_drop (suc n) (x ∷ xs) all = all_drop n xs all.1

  all_without : (place : Option ℕ) (calls : List NamedCall) → AreOver h calls → AreOver h (without_place place calls)
  all_without None calls all = all
  all_without (Some place) calls all = all_both (take place calls) (drop (suc place) calls) (all_take place calls all) (all_drop (suc place) calls all)

  at_place : (place : ℕ) (calls : List NamedCall) (call : OpenCall) → call_at (Some place) calls ≡ Some call → AreOver h calls → IsCallOver h call
  at_place zero [] call is all = absurd (cc is)
  at_place (suc place) [] call is all = absurd (cc is)
  at_place zero (first ∷ others) call is all = let same : first.call ≡ call = cc is in subst (IsCallOver h) same all.0
  at_place (suc place) (first ∷ others) call is all = at_place place others call is all.1

  named_over : (place : Option ℕ) (calls : List NamedCall) (call : OpenCall) → call_at place calls ≡ Some call → AreOver h calls → IsCallOver h call
  named_over None calls call is all = absurd (cc is)
  named_over (Some place) calls call is all = at_place place calls call is all

  -- ---- lines

  -- what a look has shown is of this history
  abbrev Shows : Option (List (List Elem)) → Result View Refusal → Type 0
  Shows None result = Unit {0}
  Shows (Some patterns) result = (view : View) → result ≡ Ok view → view ≡ view_of h patterns

  open_by_over : (author : ℕ) (name : List ℕ) (mode : ListMode) (plan : Plan) (now : ℕ) (result : Result View Refusal) (calls : List NamedCall) → AreOver h calls → Shows (planned_look mode (Ok plan)) result → AreOver h (open_by author name mode plan now result calls).calls
  open_by_over author name modes.Poll plan now result calls all shows = all_both calls _ all (tt, tt)
  open_by_over author name modes.Stream plan now (Ok view) calls all shows = all_both calls _ all (run_begins plan h now view (shows view refl), tt)
  open_by_over author name modes.Stream plan now (Err refusal) calls all shows = all
  open_by_over author name modes.Once plan now result calls all shows = all
  open_by_over author name modes.Other plan now result calls all shows = all

  planned_over : (author : ℕ) (name : List ℕ) (mode : ListMode) (plan : Result Plan Refusal) (now : ℕ) (result : Result View Refusal) (calls : List NamedCall) → AreOver h calls → Shows (planned_look mode plan) result → AreOver h (open_planned author name mode plan now result calls).calls
  planned_over author name mode (Err refusal) now result calls all shows = all
  planned_over author name mode (Ok plan) now result calls all shows = open_by_over author name mode plan now result calls all shows

  open_over : (author : ℕ) (name : List ℕ) (mode : ListMode) (only : Bool) (subs : List SubLine) (now : ℕ) (result : Result View Refusal) (calls : List NamedCall) → AreOver h calls → Shows (open_look name mode only subs calls) result → AreOver h (open_step author name mode only subs now result calls).calls
  open_over author name mode only subs now result calls all shows = by (is_some (call_named name calls)) shows
    where
      by : (taken : Bool) → Shows (if taken then None else planned_look mode (plan_of (sub_ask mode only subs))) result → AreOver h (if taken then step_with replies.Taken calls else open_planned author name mode (plan_of (sub_ask mode only subs)) now result calls).calls
      by true shows = all
      by false shows = planned_over author name mode (plan_of (sub_ask mode only subs)) now result calls all shows

  turn_over : (name : List ℕ) (call : Option OpenCall) (now : ℕ) (result : Result View Refusal) (calls : List NamedCall) → call_named name calls ≡ call → AreOver h calls → Shows (turn_look call) result → AreOver h (turn_step name call now result calls).calls
  turn_over name None now result calls is all shows = all
  turn_over name (Some (opened.Poll call)) now result calls is all shows = all
  turn_over name (Some (opened.Stream call)) now (Err refusal) calls is all shows = all
  turn_over name (Some (opened.Stream call)) now (Ok view) calls is all shows =
      all_both (without_call name calls) _ (all_without (position (has_name name) calls) calls all)
      (run_goes_on h call.stream now view (shows view refl) (named_over (position (has_name name) calls) calls (opened.Stream call) is all), tt)

  poll_over : (name : List ℕ) (call : Option OpenCall) (result : Result View Refusal) (calls : List NamedCall) → AreOver h calls → AreOver h (poll_step name call result calls).calls
  poll_over name None result calls all = all
  poll_over name (Some (opened.Poll call)) result calls all = all
  poll_over name (Some (opened.Stream call)) result calls all = all_without (position (has_name name) calls) calls all

  end_over : (name : List ℕ) (call : Option OpenCall) (calls : List NamedCall) → AreOver h calls → AreOver h (end_step name call calls).calls
  end_over name None calls all = all_without (position (has_name name) calls) calls all
  end_over name (Some call) calls all = all_without (position (has_name name) calls) calls all

  line_over : (line : Line) (state : ScriptState) → AreOver h state.calls → Shows (line_look line state) (look_answer line state) → AreOver h (calls_left (line_step line state) state.calls)
  line_over (lines.Open author name mode only) state all shows = open_over author name mode only state.subs state.reading (look_answer (lines.Open author name mode only) state) state.calls all shows
  line_over (lines.Turn name) state all shows = turn_over name (call_named name state.calls) state.reading (look_answer (lines.Turn name) state) state.calls refl all shows
  line_over (lines.Poll name) state all shows = poll_over name (call_named name state.calls) (look_answer (lines.Poll name) state) state.calls all
  line_over (lines.End name) state all shows = end_over name (call_named name state.calls) state.calls all
  line_over (lines.At reading) state all shows = all
  line_over (lines.Add act path value) state all shows = all
  line_over (lines.Set author) state all shows = all
  line_over (lines.Get author pattern) state all shows = all
  line_over (lines.Trial author id span) state all shows = all
  line_over (lines.Confirm author id) state all shows = all
  line_over (lines.Cancel author id) state all shows = all
  line_over (lines.Extend author id span) state all shows = all
  line_over (lines.Sub sub) state all shows = all
  line_over (lines.Stop calls fill) state all shows = all
  line_over (lines.Fail calls) state all shows = all

-- ---- along the lines

calls_behind : (line : Line) (state : ScriptState) → (state_after line state).calls ≡ calls_left (line_step line state) state.calls
unfolding state_after
calls_behind line state = refl

shows_by : (line : Line) (state : ScriptState) (look : Option (List (List Elem))) → line_look line state ≡ look → Shows (state_after line state).history look (look_answer line state)
shows_by line state None is = tt
shows_by line state (Some patterns) is = λ view seen. shown_part line state view patterns is seen

behind_over : (line : Line) (state : ScriptState) → AreOver state.history state.calls → AreOver (state_after line state).history (state_after line state).calls
behind_over line state all =
    let on : GoesOn state.history (state_after line state).history = line_goes_on state.history state.reading (line_answer line state) (state_after line state).history (answers_tell line state) in
    let grown = subst (λ h. AreOver h state.calls) (sym on.whole) (all_stay state.history on.later state.calls all) in
    subst (AreOver (state_after line state).history) (sym (calls_behind line state))
    (line_over (state_after line state).history line state grown (shows_by line state (line_look line state) refl))

none_over : (h : List Entry) (calls : List NamedCall) → calls ≡ [] → AreOver h calls
none_over h calls is = subst (AreOver h) (sym is) tt

reopened_over : (left next : ScriptState) (ending : Option Restarted) → Some next ≡ option_map (restarted_state left) ending → AreOver next.history next.calls
reopened_over left next None is = absurd (cc is)
reopened_over left next (Some restart) is = let same : next ≡ restarted_state left restart = cc is in none_over next.history next.calls (ap (λ (s : ScriptState). s.calls) same)

taken_over : (line : Line) (state next : ScriptState) (printed : List ℕ) → AreOver state.history state.calls → Takes line state printed (Some next) → AreOver next.history next.calls
taken_over line state next printed all takes = by (state_after line state).arming.stopped takes
  where
    by : (stopped : Bool) → TakesBy stopped line state printed (Some next) → AreOver next.history next.calls
    by true restarts = reopened_over (state_after line state) next restarts.ending restarts.next_is
    by false taken = let same : next ≡ state_after line state = cc (taken.1) in subst (λ (s : ScriptState). AreOver s.history s.calls) (sym same) (behind_over line state all)

lead_over : (ls : List Line) (state left : ScriptState) → AreOver state.history state.calls → LeadTo ls state left → AreOver left.history left.calls
lead_over [] state left all leads = subst (λ (s : ScriptState). AreOver s.history s.calls) (sym leads) all
lead_over (line ∷ ls) state left all leads = lead_over ls leads.1 left (taken_over line state leads.1 leads.0 all leads.2) leads.3

pub streams_are_runs : StreamsAreRuns
streams_are_runs schema limits ls left leads = lead_over ls (new_state schema limits) left tt leads

-- ---- what a turn says

record Said (h : List Entry) (name : List ℕ) (call : StreamCall) (now : ℕ) (note : Option Note) (calls left : List NamedCall) : Type 0 where
  view : View
  shows : view ≡ view_of h (patterns_of call.stream.lines)
  note_is : note ≡ note_of (turn_input_of call.stream now view) view.stamp
  left_is : left ≡ with_call name (opened.Stream (record call { stream = stream_after call.stream now view })) (without_call name calls)

said_by : (h : List Entry) (name : List ℕ) (call : StreamCall) (now : ℕ) (result : Result View Refusal) (note : Option Note) (calls left : List NamedCall) → ((view : View) → result ≡ Ok view → view ≡ view_of h (patterns_of call.stream.lines)) → stream_turn name call now result calls ≡ step_with (replies.Turned note) left → Said h name call now note calls left
said_by h name call now (Err refusal) note calls left shows is = absurd (apart (ap (λ (s : CallStep). s.reply) is))
  where
    apart : replies.Refused refusal ≡ replies.Turned note → ⊥
    apart same = cc same
said_by h name call now (Ok view) note calls left shows is =
    let turned : replies.Turned (note_of (turn_input_of call.stream now view) view.stamp) ≡ replies.Turned note = ap (λ (s : CallStep). s.reply) is in
    let same : note_of (turn_input_of call.stream now view) view.stamp ≡ note = cc turned in
    record { view = view; shows = shows view refl; note_is = sym same; left_is = sym (ap (λ (s : CallStep). s.calls) is) }

pub turns_say : TurnsSay
turns_say name state call note calls plan first later messages is step at =
    let line : Line = lines.Turn name in
    let h : List Entry = (state_after line state).history in
    let look : line_look line state ≡ Some (patterns_of call.stream.lines) = ap turn_look is in
    let both : Some (turn_step name (Some (opened.Stream call)) state.reading (look_answer line state) state.calls) ≡ Some (step_with (replies.Turned note) calls) = ap (λ c. Some (turn_step name c state.reading (look_answer line state) state.calls)) (sym is) ∙ step in
    let taken : stream_turn name call state.reading (look_answer line state) state.calls ≡ step_with (replies.Turned note) calls = cc both in
    let said = said_by h name call state.reading (look_answer line state) note state.calls calls (λ view seen. shown_part line state view (patterns_of call.stream.lines) look seen) taken in
    let on : GoesOn state.history h = line_goes_on state.history state.reading (line_answer line state) h (answers_tell line state) in
    let stays : IsStreamAt plan first later messages h call.stream = subst (λ g. IsStreamAt plan first later messages g call.stream) (sym on.whole) (runs_stay plan first later messages state.history on.later call.stream at) in
    let moment : Moment = moment_of call.stream state.reading (length h) in
    let next : StreamView = stream_after call.stream state.reading said.view in
    let here : view_at plan.lines h (length h) ≡ said.view = at_end plan.lines h ∙ ap (λ ls. view_of h (patterns_of ls)) (sym at.lines) ∙ sym said.shows in
    let goes = subst (λ (v : View). IsStreamAt plan first (later ++ moment ∷ []) (messages ++ messages_at call.stream state.reading v) h (stream_after call.stream state.reading v)) here
    (turns_go_on plan first later messages h call.stream state.reading (length h) stays (last_inside (length h) first.time first later stays.run.inside stays.run.go_on) (le_refl (length h))) in
    (next, ap (λ (v : View). stream_after call.stream state.reading v) (sym here), said.left_is, subst (λ n. IsStreamAt plan first (later ++ moment ∷ []) (messages ++ note_messages n) h next) (sym said.note_is) goes)

-- ---- what begins

begins : (plan : Plan) (h : List Entry) (now : ℕ) (view : View) (note : Option Note) → view ≡ view_of h (patterns_of plan.lines) → begins_with plan.updates_only view ≡ note → Begins plan h now note (stream_from plan now view)
begins plan h now view note shows is =
    let here : view ≡ view_at plan.lines h (length h) = shows ∙ sym (at_end plan.lines h) in
    let is_noted : note ≡ begins_with plan.updates_only (view_at plan.lines h (length h)) = sym is ∙ ap (begins_with plan.updates_only) here in
    record {
      noted = is_noted;
      begun = ap (stream_from plan now) here;
      run = subst (λ (n : Option Note). IsStreamAt plan (first_moment now (length h)) [] (note_messages n ++ Sync ∷ []) h (stream_from plan now view)) (sym is_noted)
          (subst (λ (v : View). IsStreamAt plan (first_moment now (length h)) [] (started_messages plan (view_at plan.lines h (length h))) h (stream_from plan now v)) (sym here)
          (subst (λ ms. IsStreamAt plan (first_moment now (length h)) [] ms h (stream_from plan now (view_at plan.lines h (length h)))) (sym (starts_say plan (view_at plan.lines h (length h))))
          (runs_begin plan h now (length h) (le_refl (length h)))));
    }

record OpensBy (h : List Entry) (author : ℕ) (name : List ℕ) (made : Result Plan Refusal) (now : ℕ) (note : Option Note) (calls left : List NamedCall) : Type 0 where
  plan : Plan
  stream : StreamView
  plan_is : made ≡ Ok plan
  left_is : left ≡ with_call name (opened.Stream (record { author = author; stream = stream })) calls
  begun : Begins plan h now note stream

record OnceBy (h : List Entry) (made : Result Plan Refusal) (now : ℕ) (note : Option Note) (calls left : List NamedCall) : Type 0 where
  plan : Plan
  stream : StreamView
  plan_is : made ≡ Ok plan
  left_is : left ≡ calls
  begun : Begins plan h now note stream

not_began : (said : Option Note) (step : CallStep) (calls : List NamedCall) → step ≡ step_with (replies.Began said) calls → (step.reply ≡ replies.Began said → ⊥) → ⊥
not_began said step calls is apart = apart (ap (λ (s : CallStep). s.reply) is)

once_no_began : (plan : Plan) (result : Result View Refusal) (said : Option Note) → once_reply plan result ≡ replies.Began said → ⊥
once_no_began plan (Ok view) said is = cc is
once_no_began plan (Err refusal) said is = cc is

module _ (h : List Entry) (author : ℕ) (name : List ℕ) (now : ℕ) (note : Option Note) (calls left : List NamedCall) where
  opens_by : (mode : ListMode) (plan : Plan) (result : Result View Refusal) → Shows h (planned_look mode (Ok plan)) result → open_by author name mode plan now result calls ≡ step_with (replies.Began note) left → OpensBy h author name (Ok plan) now note calls left
  opens_by modes.Poll plan result shows is = absurd (not_began note _ left is (λ same. cc same))
  opens_by modes.Stream plan (Ok view) shows is =
      let began : replies.Began (begins_with plan.updates_only view) ≡ replies.Began note = ap (λ (s : CallStep). s.reply) is in
      let same : begins_with plan.updates_only view ≡ note = cc began in
      record { plan = plan; stream = stream_from plan now view; plan_is = refl; left_is = sym (ap (λ (s : CallStep). s.calls) is); begun = begins plan h now view note (shows view refl) same }
  opens_by modes.Stream plan (Err refusal) shows is = absurd (not_began note _ left is (λ same. cc same))
  opens_by modes.Once plan result shows is = absurd (once_no_began plan result note (ap (λ (s : CallStep). s.reply) is))
  opens_by modes.Other plan result shows is = absurd (once_no_began plan result note (ap (λ (s : CallStep). s.reply) is))

  opens_planned : (mode : ListMode) (made : Result Plan Refusal) (result : Result View Refusal) → Shows h (planned_look mode made) result → open_planned author name mode made now result calls ≡ step_with (replies.Began note) left → OpensBy h author name made now note calls left
  opens_planned mode (Err refusal) result shows is = absurd (not_began note _ left is (λ same. cc same))
  opens_planned mode (Ok plan) result shows is = opens_by mode plan result shows is

  opens_named : (mode : ListMode) (made : Result Plan Refusal) (result : Result View Refusal) (taken : Bool) → Shows h (if taken then None else planned_look mode made) result → (if taken then step_with replies.Taken calls else open_planned author name mode made now result calls) ≡ step_with (replies.Began note) left → OpensBy h author name made now note calls left
  opens_named mode made result true shows is = absurd (not_began note _ left is (λ same. cc same))
  opens_named mode made result false shows is = opens_planned mode made result shows is

  replied_once : (mode : ListMode) (plan : Plan) (result : Result View Refusal) → ((view : View) → result ≡ Ok view → view ≡ view_of h (patterns_of plan.lines)) → step_with (once_reply plan result) calls ≡ step_with (replies.Once note) left → OnceBy h (Ok plan) now note calls left
  replied_once mode plan (Ok view) shows is =
      let once : replies.Once (begins_with plan.updates_only view) ≡ replies.Once note = ap (λ (s : CallStep). s.reply) is in
      let same : begins_with plan.updates_only view ≡ note = cc once in
      record { plan = plan; stream = stream_from plan now view; plan_is = refl; left_is = sym (ap (λ (s : CallStep). s.calls) is); begun = begins plan h now view note (shows view refl) same }
  replied_once mode plan (Err refusal) shows is = absurd (apart (ap (λ (s : CallStep). s.reply) is))
    where
      apart : replies.Refused refusal ≡ replies.Once note → ⊥
      apart same = cc same

  once_by : (mode : ListMode) (plan : Plan) (result : Result View Refusal) → Shows h (planned_look mode (Ok plan)) result → open_by author name mode plan now result calls ≡ step_with (replies.Once note) left → OnceBy h (Ok plan) now note calls left
  once_by modes.Poll plan result shows is = absurd (apart (ap (λ (s : CallStep). s.reply) is))
    where
      apart : replies.Opened ≡ replies.Once note → ⊥
      apart same = cc same
  once_by modes.Stream plan (Ok view) shows is = absurd (apart (ap (λ (s : CallStep). s.reply) is))
    where
      apart : replies.Began (begins_with plan.updates_only view) ≡ replies.Once note → ⊥
      apart same = cc same
  once_by modes.Stream plan (Err refusal) shows is = absurd (apart (ap (λ (s : CallStep). s.reply) is))
    where
      apart : replies.Refused refusal ≡ replies.Once note → ⊥
      apart same = cc same
  once_by modes.Once plan result shows is = replied_once modes.Once plan result shows is
  once_by modes.Other plan result shows is = replied_once modes.Other plan result shows is

  once_planned : (mode : ListMode) (made : Result Plan Refusal) (result : Result View Refusal) → Shows h (planned_look mode made) result → open_planned author name mode made now result calls ≡ step_with (replies.Once note) left → OnceBy h made now note calls left
  once_planned mode (Err refusal) result shows is = absurd (apart (ap (λ (s : CallStep). s.reply) is))
    where
      apart : replies.Refused refusal ≡ replies.Once note → ⊥
      apart same = cc same
  once_planned mode (Ok plan) result shows is = once_by mode plan result shows is

  once_named : (mode : ListMode) (made : Result Plan Refusal) (result : Result View Refusal) (taken : Bool) → Shows h (if taken then None else planned_look mode made) result → (if taken then step_with replies.Taken calls else open_planned author name mode made now result calls) ≡ step_with (replies.Once note) left → OnceBy h made now note calls left
  once_named mode made result true shows is = absurd (apart (ap (λ (s : CallStep). s.reply) is))
    where
      apart : replies.Taken ≡ replies.Once note → ⊥
      apart same = cc same
  once_named mode made result false shows is = once_planned mode made result shows is

pub opens_say : OpensSay
opens_say author name mode only state note calls step =
    let line : Line = lines.Open author name mode only in
    let h : List Entry = (state_after line state).history in
    let taken : open_step author name mode only state.subs state.reading (look_answer line state) state.calls ≡ step_with (replies.Began note) calls = cc step in
    let opens = opens_named h author name state.reading note state.calls calls mode (plan_of (sub_ask mode only state.subs)) (look_answer line state) (is_some (call_named name state.calls)) (shows_by line state (line_look line state) refl) taken in
    (opens.plan, opens.stream, opens.plan_is, opens.left_is, opens.begun)

pub once_says : OnceSays
once_says author name mode only state note calls step =
    let line : Line = lines.Open author name mode only in
    let h : List Entry = (state_after line state).history in
    let taken : open_step author name mode only state.subs state.reading (look_answer line state) state.calls ≡ step_with (replies.Once note) calls = cc step in
    let once = once_named h author name state.reading note state.calls calls mode (plan_of (sub_ask mode only state.subs)) (look_answer line state) (is_some (call_named name state.calls)) (shows_by line state (line_look line state) refl) taken in
    (once.plan, once.stream, once.plan_is, once.left_is, once.begun)

-- ---- what a poll says

record Polled (h : List Entry) (plan : Plan) (now : ℕ) (note : Option Note) (calls left : List NamedCall) : Type 0 where
  stream : StreamView
  left_is : left ≡ calls
  begun : Begins plan h now note stream

polled_by : (h : List Entry) (call : PollCall) (now : ℕ) (result : Result View Refusal) (note : Option Note) (calls left : List NamedCall) → ((view : View) → result ≡ Ok view → view ≡ view_of h (patterns_of call.plan.lines)) → step_with (poll_turn call result) calls ≡ step_with (replies.Began note) left → Polled h call.plan now note calls left
polled_by h call now (Ok view) note calls left shows is =
    let began : replies.Began (begins_with call.plan.updates_only view) ≡ replies.Began note = ap (λ (s : CallStep). s.reply) is in
    let same : begins_with call.plan.updates_only view ≡ note = cc began in
    record { stream = stream_from call.plan now view; left_is = sym (ap (λ (s : CallStep). s.calls) is); begun = begins call.plan h now view note (shows view refl) same }
polled_by h call now (Err refusal) note calls left shows is = absurd (apart (ap (λ (s : CallStep). s.reply) is))
  where
    apart : replies.Refused refusal ≡ replies.Began note → ⊥
    apart same = cc same

pub polls_say : PollsSay
polls_say name state call note calls is step =
    let line : Line = lines.Poll name in
    let h : List Entry = (state_after line state).history in
    let look : line_look line state ≡ Some (patterns_of call.plan.lines) = ap poll_look is in
    let both : Some (poll_step name (Some (opened.Poll call)) (look_answer line state) state.calls) ≡ Some (step_with (replies.Began note) calls) = ap (λ c. Some (poll_step name c (look_answer line state) state.calls)) (sym is) ∙ step in
    let taken : step_with (poll_turn call (look_answer line state)) state.calls ≡ step_with (replies.Began note) calls = cc both in
    let polled = polled_by h call state.reading (look_answer line state) note state.calls calls (λ view seen. shown_part line state view (patterns_of call.plan.lines) look seen) taken in
    (polled.stream, polled.left_is, polled.begun)

-- ---- what stays

pub runs_are_kept : RunsAreKept
runs_are_kept script state left plan first later messages stream leads at =
    let on : GoesOn state.history left.history = lead_on script state left leads in
    subst (λ g. IsStreamAt plan first later messages g stream) (sym on.whole) (runs_stay plan first later messages state.history on.later stream at)
