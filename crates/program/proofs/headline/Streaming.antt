-- What a stream of a script tells, from its `open` on, is a run over the history.
use Rattle.std.specs.Prelude.{option_map}
use Rattle.std.proofs.Common.{◌≡◌, ◌⊎◌, inl, inr, ℕ, ◌≤◌, length, List, [], ◌∷◌, ◌++◌, Bool, true, false, true≢false, cond, refl, sym, ap, ◌∙◌, subst, append-nil, append_assoc, is_some, Option, Some, None, Result, Ok, Err, if◌then◌else◌}
use Rattle.std.specs.List.{AllByRecursion, flat_map}
use Rattle.std.specs.Str.{bytes_eq}
use Rattle.std.proofs.Math.Nat.{le_refl}
use Rattle.std.proofs.lemmas.Slice.Eq.{bytes_eq-Decides}
use Rattle.base_kinds.specs.declared.entry.Entry.{Entry}
use Rattle.base_kinds.specs.declared.entry.View.{View}
use Rattle.base_kinds.specs.declared.refusal.Refusal.{Refusal}
use Rattle.base_kinds.specs.declared.request.ListMode.{ListMode}
use Rattle.base_kinds.specs.declared.request.ListMode.TheVariants as modes
use Rattle.base_kinds.specs.declared.request.Note.{Note}
use Rattle.base_kinds.specs.declared.request.SubLine.{SubLine}
use Rattle.gnmi_kinds.specs.declared.reply.SubReply.{SubReply}
use Rattle.gnmi_kinds.specs.declared.reply.SubReply.TheVariants.{Sync}
use Rattle.stream_laws.specs.Follows.{IsStreamAt, first_moment, moment_of}
use Rattle.stream_laws.specs.Runs.{Moment, note_messages}
use Rattle.stream_laws.specs.Streams.{StreamView}
use Rattle.sub_plan.specs.declared.plan.Plan.{Plan}
use Rattle.sub_plan.specs.Plans.{plan_of}
use Rattle.script_text.specs.declared.line.Line.{Line}
use Rattle.script_text.specs.declared.line.Line.TheVariants as lines
use Rattle.script_run.specs.CallViews.{StreamCall}
use Rattle.script_run.specs.OpenCalls.{call_named, with_call, without_call}
use Rattle.script_run.specs.Restarts.{Takes, TakesBy, restarted_state}
use Rattle.script_run.specs.ScriptStates.{ScriptState, line_step, look_answer, state_after}
use Rattle.script_run.specs.Stops.{Restarted}
use Rattle.script_run.specs.Subscribing.{CallStep, calls_left, end_step, open_by, open_planned, open_step, poll_step, step_with, stream_turn, sub_ask, turn_step}
use Rattle.script_run.specs.declared.calls.NamedCall.{NamedCall}
use Rattle.script_run.specs.declared.calls.OpenCall.{OpenCall}
use Rattle.script_run.specs.declared.calls.OpenCall.TheVariants as opened
use Rattle.script_run.specs.declared.subscribing.CallReply.TheVariants as replies
use Rattle.script_run.proofs.Streams.{opens_say, runs_are_kept, turns_say}
use Rattle.program.specs.headline.OneScript.{IsOpen, told_in, told_on}
use Rattle.program.proofs.headline.Named.{all_named, first_named, none_named, not_named, one_more, without_other, without_own}

-- ---- what a line does to the call of a name

-- the line is a turn of this name, and is answered
record Turns (name : List ℕ) (line : Line) (state : ScriptState) (call : StreamCall) : Type 0 where
  note : Option Note
  left : List NamedCall
  turn : line ≡ lines.Turn name
  answered : line_step line state ≡ Some (step_with (replies.Turned note) left)

-- the call is as it was, and nothing is told; or it is stays no more; or it took a turn
abbrev Goes : List ℕ → Line → ScriptState → NamedCall → StreamCall → Type 0
Goes name line state x call =
    ((all_named name (calls_left (line_step line state) state.calls) ≡ x ∷ []) × (told_on name line (line_step line state) ≡ []))
    ⊎ (all_named name (calls_left (line_step line state) state.calls) ≡ [])
    ⊎ Turns name line state call

module _ (name : List ℕ) (x : NamedCall) (call : StreamCall) (state : ScriptState) (one : all_named name state.calls ≡ x ∷ []) (is_stream : x.call ≡ opened.Stream call) where
  abbrev calls : List NamedCall
  calls = state.calls

  named : call_named name calls ≡ Some (opened.Stream call)
  named = first_named name calls x [] one ∙ ap (λ (c : OpenCall). Some c) is_stream

  -- a call of another name comes
  comes : (other : List ℕ) (new : OpenCall) → bytes_eq other name ≡ false → all_named name (with_call other new calls) ≡ x ∷ []
  comes other new apart = one_more name other new calls ∙ ap (λ (b : Bool). all_named name calls ++ cond b (record { name = other; call = new } ∷ []) []) apart ∙ append-nil (all_named name calls) ∙ one

  -- it is replaced
  replaced : (other : List ℕ) (new : OpenCall) → bytes_eq other name ≡ false → all_named name (with_call other new (without_call other calls)) ≡ x ∷ []
  replaced other new apart =
      one_more name other new (without_call other calls) ∙ ap (λ (b : Bool). all_named name (without_call other calls) ++ cond b (record { name = other; call = new } ∷ []) []) apart
      ∙ append-nil (all_named name (without_call other calls)) ∙ without_other name other calls apart ∙ one

  open_by_keeps : (author : ℕ) (other : List ℕ) (mode : ListMode) (plan : Plan) (now : ℕ) (looked : Result View Refusal) → bytes_eq other name ≡ false → all_named name (open_by author other mode plan now looked calls).calls ≡ x ∷ []
  open_by_keeps author other modes.Poll plan now looked apart = comes other _ apart
  open_by_keeps author other modes.Stream plan now (Ok view) apart = comes other _ apart
  open_by_keeps author other modes.Stream plan now (Err refusal) apart = one
  open_by_keeps author other modes.Once plan now looked apart = one
  open_by_keeps author other modes.Other plan now looked apart = one

  planned_keeps : (author : ℕ) (other : List ℕ) (mode : ListMode) (made : Result Plan Refusal) (now : ℕ) (looked : Result View Refusal) → bytes_eq other name ≡ false → all_named name (open_planned author other mode made now looked calls).calls ≡ x ∷ []
  planned_keeps author other mode (Err refusal) now looked apart = one
  planned_keeps author other mode (Ok plan) now looked apart = open_by_keeps author other mode plan now looked apart

  -- where no call has this name it isn't the stream's
  another : (other : List ℕ) (b : Bool) → bytes_eq other name ≡ b → is_some (call_named other calls) ≡ false → bytes_eq other name ≡ false
  another other false is free = is
  another other true is free =
      let same : other ≡ name = (bytes_eq-Decides other name).0 is in
      absurd (true≢false (sym (ap is_some (ap (λ (n : List ℕ). call_named n calls) same ∙ named)) ∙ free))

  open_keeps : (author : ℕ) (other : List ℕ) (mode : ListMode) (only : Bool) (now : ℕ) (looked : Result View Refusal) → all_named name (open_step author other mode only state.subs now looked calls).calls ≡ x ∷ []
  open_keeps author other mode only now looked = by_test (is_some (call_named other calls)) refl
    where
      by_test : (taken : Bool) → is_some (call_named other calls) ≡ taken → all_named name (if taken then step_with replies.Taken calls else open_planned author other mode (plan_of (sub_ask mode only state.subs)) now looked calls).calls ≡ x ∷ []
      by_test true is = one
      by_test false is = planned_keeps author other mode (plan_of (sub_ask mode only state.subs)) now looked (another other (bytes_eq other name) refl is)

  turn_keeps : (other : List ℕ) (taken : Option OpenCall) (now : ℕ) (looked : Result View Refusal) → bytes_eq other name ≡ false → all_named name (turn_step other taken now looked calls).calls ≡ x ∷ []
  turn_keeps other None now looked apart = one
  turn_keeps other (Some (opened.Poll polled)) now looked apart = one
  turn_keeps other (Some (opened.Stream turned)) now (Err refusal) apart = one
  turn_keeps other (Some (opened.Stream turned)) now (Ok view) apart = replaced other _ apart

  poll_keeps : (other : List ℕ) (taken : Option OpenCall) (looked : Result View Refusal) → bytes_eq other name ≡ false → all_named name (poll_step other taken looked calls).calls ≡ x ∷ []
  poll_keeps other None looked apart = one
  poll_keeps other (Some (opened.Poll polled)) looked apart = one
  poll_keeps other (Some (opened.Stream turned)) looked apart = without_other name other calls apart ∙ one

  end_keeps : (other : List ℕ) (taken : Option OpenCall) → bytes_eq other name ≡ false → all_named name (end_step other taken calls).calls ≡ x ∷ []
  end_keeps other None apart = without_other name other calls apart ∙ one
  end_keeps other (Some ended) apart = without_other name other calls apart ∙ one

  end_ends : (taken : Option OpenCall) → all_named name (end_step name taken calls).calls ≡ []
  end_ends None = without_own name calls x one
  end_ends (Some ended) = without_own name calls x one

  -- ---- a turn

  abbrev untold : List ℕ → Option CallStep → Type 0
  untold other answered = told_on name (lines.Turn other) answered ≡ []

  apart_untold : (other : List ℕ) (answered : Option CallStep) → bytes_eq other name ≡ false → untold other answered
  apart_untold other answered apart = ap (λ (b : Bool). if b then told_in answered else []) apart

  stream_goes : (looked : Result View Refusal) → Some (stream_turn name call state.reading looked calls) ≡ line_step (lines.Turn name) state → Goes name (lines.Turn name) state x call
  stream_goes (Err refusal) is = inl (
    subst (λ (s : Option CallStep). all_named name (calls_left s calls) ≡ x ∷ []) is one,
    subst (untold name) is (by_test (bytes_eq name name)),
  )
    where
      by_test : (b : Bool) → (if b then told_in (Some (stream_turn name call state.reading (Err refusal) calls)) else []) ≡ []
      by_test true = refl
      by_test false = refl
  stream_goes (Ok view) is = inr (inr (record { note = _; left = _; turn = refl; answered = sym is }))

  turn_goes : (other : List ℕ) (b : Bool) → bytes_eq other name ≡ b → Goes name (lines.Turn other) state x call
  turn_goes other false apart = inl (turn_keeps other (call_named other calls) state.reading (look_answer (lines.Turn other) state) apart, apart_untold other (line_step (lines.Turn other) state) apart)
  turn_goes other true is =
      let same : other ≡ name = (bytes_eq-Decides other name).0 is in
      subst (λ (n : List ℕ). Goes name (lines.Turn n) state x call) (sym same)
      (stream_goes (look_answer (lines.Turn name) state) (ap (λ (taken : Option OpenCall). Some (turn_step name taken state.reading (look_answer (lines.Turn name) state) calls)) (sym named)))

  poll_goes : (other : List ℕ) (b : Bool) → bytes_eq other name ≡ b → Goes name (lines.Poll other) state x call
  poll_goes other false apart = inl (poll_keeps other (call_named other calls) (look_answer (lines.Poll other) state) apart, refl)
  poll_goes other true is =
      let same : other ≡ name = (bytes_eq-Decides other name).0 is in
      let looked = look_answer (lines.Poll name) state in
      subst (λ (n : List ℕ). Goes name (lines.Poll n) state x call) (sym same)
      (inr (inl (subst (λ (taken : Option OpenCall). all_named name (poll_step name taken looked calls).calls ≡ []) (sym named) (without_own name calls x one))))

  end_goes : (other : List ℕ) (b : Bool) → bytes_eq other name ≡ b → Goes name (lines.End other) state x call
  end_goes other false apart = inl (end_keeps other (call_named other calls) apart, refl)
  end_goes other true is =
      let same : other ≡ name = (bytes_eq-Decides other name).0 is in
      subst (λ (n : List ℕ). Goes name (lines.End n) state x call) (sym same) (inr (inl (end_ends (call_named name calls))))

  line_goes : (line : Line) → Goes name line state x call
  line_goes (lines.Open author other mode only) = inl (open_keeps author other mode only state.reading (look_answer (lines.Open author other mode only) state), refl)
  line_goes (lines.Turn other) = turn_goes other (bytes_eq other name) refl
  line_goes (lines.Poll other) = poll_goes other (bytes_eq other name) refl
  line_goes (lines.End other) = end_goes other (bytes_eq other name) refl
  line_goes (lines.At reading) = inl (one, refl)
  line_goes (lines.Add act path value) = inl (one, refl)
  line_goes (lines.Set author) = inl (one, refl)
  line_goes (lines.Get author pattern) = inl (one, refl)
  line_goes (lines.Trial author id span) = inl (one, refl)
  line_goes (lines.Confirm author id) = inl (one, refl)
  line_goes (lines.Cancel author id) = inl (one, refl)
  line_goes (lines.Extend author id span) = inl (one, refl)
  line_goes (lines.Sub sub) = inl (one, refl)
  line_goes (lines.Stop after fill) = inl (one, refl)
  line_goes (lines.Fail after) = inl (one, refl)

-- ---- along the lines

calls_after : (line : Line) (state : ScriptState) → (state_after line state).calls ≡ calls_left (line_step line state) state.calls
unfolding state_after
calls_after line state = refl

-- these messages were told of the stream of this name so far
pub record Tells (plan : Plan) (name : List ℕ) (since : ℕ) (state : ScriptState) (messages : List SubReply) : Type 0 where
  pub named : NamedCall
  pub call : StreamCall
  pub one : all_named name state.calls ≡ named ∷ []
  pub is_stream : named.call ≡ opened.Stream call
  pub first : Moment
  pub not_before : since ≤ first.position
  pub later : List Moment
  pub at : IsStreamAt plan first later messages state.history call.stream

closed : (name : List ℕ) (calls : List NamedCall) → all_named name calls ≡ [] → IsOpen name calls → ⊥
closed name calls none is = true≢false (sym is ∙ ap is_some (none_named name calls none))

-- a crash ends every call
crashed : (name : List ℕ) (left next : ScriptState) (ending : Option Restarted) → Some next ≡ option_map (restarted_state left) ending → IsOpen name next.calls → ⊥
crashed name left next None is stays = cc is
crashed name left next (Some restart) is stays =
    let same : next ≡ restarted_state left restart = cc is in
    closed name next.calls (ap (λ (s : ScriptState). all_named name s.calls) same) stays

ran_on : (name : List ℕ) (line : Line) (state next : ScriptState) (printed : List ℕ) → Takes line state printed (Some next) → IsOpen name next.calls → next ≡ state_after line state
ran_on name line state next printed takes stays = by_stop (state_after line state).arming.stopped takes
  where
    by_stop : (stopped : Bool) → TakesBy stopped line state printed (Some next) → next ≡ state_after line state
    by_stop false taken = cc (taken.1)
    by_stop true restarts = absurd (crashed name (state_after line state) next restarts.ending restarts.next_is stays)

module _ (plan : Plan) (name : List ℕ) (since : ℕ) (line : Line) (state : ScriptState) where
  tells_on : (messages : List SubReply) (printed : List ℕ) → Takes line state printed (Some (state_after line state)) → IsOpen name (state_after line state).calls → (tells : Tells plan name since state messages) → Goes name line state tells.named tells.call
      → Tells plan name since (state_after line state) (messages ++ told_on name line (line_step line state))
  tells_on messages printed takes stays tells (inl goes) = record {
    named = tells.named;
    call = tells.call;
    one = ap (all_named name) (calls_after line state) ∙ goes.0;
    is_stream = tells.is_stream;
    first = tells.first;
    not_before = tells.not_before;
    later = tells.later;
    at = subst (λ (ms : List SubReply). IsStreamAt plan tells.first tells.later ms (state_after line state).history tells.call.stream) (sym (ap (λ (l : List SubReply). messages ++ l) goes.1 ∙ append-nil messages))
        (runs_are_kept (line ∷ []) state (state_after line state) plan tells.first tells.later messages tells.call.stream (printed, state_after line state, takes, refl) tells.at);
  }
  tells_on messages printed takes stays tells (inr (inl none)) = absurd (closed name (state_after line state).calls (ap (all_named name) (calls_after line state) ∙ none) stays)
  tells_on messages printed takes stays tells (inr (inr turned)) = by_turn line turned.turn turned.answered
    where
      by_turn : (given : Line) → given ≡ lines.Turn name → line_step given state ≡ Some (step_with (replies.Turned turned.note) turned.left) → Tells plan name since (state_after given state) (messages ++ told_on name given (line_step given state))
      by_turn given is answered = subst (λ (l : Line). line_step l state ≡ Some (step_with (replies.Turned turned.note) turned.left) → Tells plan name since (state_after l state) (messages ++ told_on name l (line_step l state))) (sym is) here answered
        where
          here : line_step (lines.Turn name) state ≡ Some (step_with (replies.Turned turned.note) turned.left) → Tells plan name since (state_after (lines.Turn name) state) (messages ++ told_on name (lines.Turn name) (line_step (lines.Turn name) state))
          here step =
              let is_named : call_named name state.calls ≡ Some (opened.Stream tells.call) = first_named name state.calls tells.named [] tells.one ∙ ap (λ (c : OpenCall). Some c) tells.is_stream in
              let said = turns_say name state tells.call turned.note turned.left plan tells.first tells.later messages is_named step tells.at in
              let new : OpenCall = opened.Stream (record tells.call { stream = said.0 }) in
              let own : bytes_eq name name ≡ true = (bytes_eq-Decides name name).1 refl in
              let moments : List Moment = tells.later ++ moment_of tells.call.stream state.reading (length (state_after (lines.Turn name) state).history) ∷ [] in
              let left : (state_after (lines.Turn name) state).calls ≡ turned.left = calls_after (lines.Turn name) state ∙ ap (λ (s : Option CallStep). calls_left s state.calls) step in
              let is_told : told_on name (lines.Turn name) (line_step (lines.Turn name) state) ≡ note_messages turned.note =
              ap (λ (b : Bool). if b then told_in (line_step (lines.Turn name) state) else []) own ∙ ap told_in step in
              record {
                named = record { name = name; call = new };
                call = record tells.call { stream = said.0 };
                one = ap (all_named name) (left ∙ said.2) ∙ one_more name name new (without_call name state.calls)
                    ∙ ap (λ (b : Bool). all_named name (without_call name state.calls) ++ cond b (record { name = name; call = new } ∷ []) []) own
                    ∙ ap (λ (l : List NamedCall). l ++ record { name = name; call = new } ∷ []) (without_own name state.calls tells.named tells.one);
                is_stream = refl;
                first = tells.first;
                not_before = tells.not_before;
                later = moments;
                at = subst (λ (ms : List SubReply). IsStreamAt plan tells.first moments ms (state_after (lines.Turn name) state).history said.0) (ap (λ (l : List SubReply). messages ++ l) (sym is_told)) said.3;
              }

-- one step more
pub tells_next : (plan : Plan) (name : List ℕ) (since : ℕ) (line : Line) (state next : ScriptState) (printed : List ℕ) (messages : List SubReply) → Takes line state printed (Some next) → IsOpen name next.calls → Tells plan name since state messages → Tells plan name since next (messages ++ told_on name line (line_step line state))
tells_next plan name since line state next printed messages takes stays tells =
    let same = ran_on name line state next printed takes stays in
    subst (λ (s : ScriptState). Tells plan name since s (messages ++ told_on name line (line_step line state))) (sym same)
    (tells_on plan name since line state messages printed (subst (λ (s : ScriptState). Takes line state printed (Some s)) same takes) (subst (λ (s : ScriptState). IsOpen name s.calls) same stays) tells
    (line_goes name tells.named tells.call state tells.one tells.is_stream line))

-- ---- from its `open` on

same_ok : (one two : Plan) (made : Result Plan Refusal) → made ≡ Ok one → made ≡ Ok two → one ≡ two
same_ok one two made first second = cc (sym first ∙ second)

-- the name was free
was_free : (author : ℕ) (name : List ℕ) (mode : ListMode) (only : Bool) (state : ScriptState) (looked : Result View Refusal) (note : Option Note) (calls : List NamedCall) → open_step author name mode only state.subs state.reading looked state.calls ≡ step_with (replies.Began note) calls → all_named name state.calls ≡ []
was_free author name mode only state looked note calls = by_test (is_some (call_named name state.calls)) refl
  where
    by_test : (taken : Bool) → is_some (call_named name state.calls) ≡ taken → (if taken then step_with replies.Taken state.calls else open_planned author name mode (plan_of (sub_ask mode only state.subs)) state.reading looked state.calls) ≡ step_with (replies.Began note) calls → all_named name state.calls ≡ []
    by_test true is step = absurd (apart (ap (λ (s : CallStep). s.reply) step))
      where
        apart : replies.Taken ≡ replies.Began note → ⊥
        apart same = cc same
    by_test false is step = not_named name state.calls is

pub opened_so : (plan : Plan) (name : List ℕ) (author : ℕ) (mode : ListMode) (only : Bool) (note : Option Note) (calls : List NamedCall) (state next : ScriptState) (printed : List ℕ) → plan_of (sub_ask mode only state.subs) ≡ Ok plan
    → line_step (lines.Open author name mode only) state ≡ Some (step_with (replies.Began note) calls) → Takes (lines.Open author name mode only) state printed (Some next) → IsOpen name next.calls → Tells plan name (length (state_after (lines.Open author name mode only) state).history) next (note_messages note ++ Sync ∷ [])
opened_so plan name author mode only note calls state next printed plan_is step takes stays =
    let line : Line = lines.Open author name mode only in
    let same = ran_on name line state next printed takes stays in
    let said = opens_say author name mode only state note calls step in
    let same_plan : said.0 ≡ plan = same_ok said.0 plan (plan_of (sub_ask mode only state.subs)) said.2 plan_is in
    let call : StreamCall = record { author = author; stream = said.1 } in
    let own : bytes_eq name name ≡ true = (bytes_eq-Decides name name).1 refl in
    let left : (state_after line state).calls ≡ calls = calls_after line state ∙ ap (λ (s : Option CallStep). calls_left s state.calls) step in
    let taken : open_step author name mode only state.subs state.reading (look_answer line state) state.calls ≡ step_with (replies.Began note) calls = cc step in
    let free : all_named name state.calls ≡ [] = was_free author name mode only state (look_answer line state) note calls taken in
    subst (λ (s : ScriptState). Tells plan name (length (state_after line state).history) s (note_messages note ++ Sync ∷ [])) (sym same)
    (record {
      named = record { name = name; call = opened.Stream call };
      call = call;
      one = ap (all_named name) (left ∙ said.3) ∙ one_more name name (opened.Stream call) state.calls
          ∙ ap (λ (b : Bool). all_named name state.calls ++ cond b (record { name = name; call = opened.Stream call } ∷ []) []) own
          ∙ ap (λ (l : List NamedCall). l ++ record { name = name; call = opened.Stream call } ∷ []) free;
      is_stream = refl;
      first = first_moment state.reading (length (state_after line state).history);
      not_before = le_refl (length (state_after line state).history);
      later = [];
      at = subst (λ (p : Plan). IsStreamAt p (first_moment state.reading (length (state_after line state).history)) [] (note_messages note ++ Sync ∷ []) (state_after line state).history said.1) same_plan said.4.run;
    })
