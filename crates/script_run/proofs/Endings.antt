-- What ends a trial is answered with its entry or for the disk alone.
use Rattle.std.proofs.Common.{◌≡◌, ◌⊎◌, ℕ, List, [], ◌∷◌, ◌++◌, Bool, true, false, not, Option, None, Some, Result, Ok, Err, refl, sym, ap, ◌∙◌, subst, inl, inr, append-nil, if◌then◌else◌}
use Rattle.std.specs.List.{list_any}
use Rattle.base_kinds.specs.declared.path.Elem.{Elem}
use Rattle.base_kinds.specs.declared.entry.Ask.{Ask}
use Rattle.base_kinds.specs.declared.entry.Entry.{Entry}
use Rattle.base_kinds.specs.declared.refusal.Refusal.{Refusal}
use Rattle.base_kinds.specs.declared.refusal.Refusal.TheVariants.{DiskFault}
use Rattle.base_kinds.specs.Events.{Request, Set, Get, Event, Answer, OfSet, history_after_request, is_long, OfGet}
use Rattle.base_kinds.specs.Step.{Rules, after_expiry, judge, kind_of_ask, new_stamp, next_entry, step, with_answer}
use Rattle.book_core.specs.laws.ClosingLaws.{EndsOpenTrial}
use Rattle.book_port.proofs.Answering.{quiet_expiry}
use Rattle.history_laws.proofs.Closings.{closings_are_taken}
use Rattle.script_text.specs.declared.line.Line.{Line}
use Rattle.script_run.specs.AnswerLines.{event_reply, line_answer, look_reply}
use Rattle.script_run.specs.ScriptStates.{ScriptState, line_event, line_look, rules_in, book_behind, state_after}
use Rattle.script_run.specs.Turns.{looked_by, request_reply, takes_turn, unless_failed}
use Rattle.script_run.specs.laws.EndingLaws.{IsFaulted}
use Rattle.script_run.proofs.ScriptLaws.{event_leaves, reading_is, set_answered}

true≢false : true ≡ false → ⊥
true≢false is = cc is

-- the rules accept it
abbrev ending_entry : List Entry → ℕ → ℕ → Ask → Entry
ending_entry h now author ask = next_entry h (new_stamp h now) author (kind_of_ask (new_stamp h now) ask)

accepted : (rules : Rules) (h : List Entry) (now author : ℕ) (ask : Ask) → EndsOpenTrial h now ask → step rules h now author ask ≡ Ok (ending_entry h now author ask)
accepted rules h now author ask ends =
    ap (λ es. judge rules es now author ask) (quiet_expiry h now ends.not_due)
    ∙ closings_are_taken rules h now author ends.trial ask ends.was_open ends.closes

ended : (answer : Option Answer) (failed : Bool) (judged : Result Entry Refusal) (entry : Entry) → answer ≡ Some (OfSet (unless_failed failed judged)) → judged ≡ Ok entry → ((e : Entry) × (answer ≡ Some (OfSet (Ok e)))) ⊎ (answer ≡ Some (OfSet (Err DiskFault)))
ended answer true judged entry replied is = inr replied
ended answer false judged entry replied is = inl (entry, replied ∙ ap (λ r. Some (OfSet r)) is)

pub endings_are_answered : (line : Line) (state : ScriptState) (event : Event) (ask : Ask) → line_event line state ≡ Some event → event.request ≡ Set (Ok ask) → EndsOpenTrial state.history state.reading ask → ((entry : Entry) × (line_answer line state ≡ Some (OfSet (Ok entry)))) ⊎ (line_answer line state ≡ Some (OfSet (Err DiskFault)))
endings_are_answered line state event ask is asks ends =
    let failed : Bool = (book_behind (Some event) state).failed in
    let here : EndsOpenTrial state.history event.reading ask = subst (λ r. EndsOpenTrial state.history r ask) (sym (reading_is line state event is)) ends in
    ended (line_answer line state) failed (step (rules_in state) state.history event.reading event.author ask) (ending_entry state.history event.reading event.author ask)
    (set_answered line state event (Ok ask) is asks ∙ ap (λ r. Some (request_reply (rules_in state) state.history event.reading event.author r failed)) asks)
    (accepted (rules_in state) state.history event.reading event.author ask here)

-- ---- the event of the clock

faulted : (rules : Rules) (h : List Entry) (reading author : ℕ) (request : Request) (answer : Option Answer) → answer ≡ Some (request_reply rules h reading author request true) → IsFaulted answer
faulted rules h reading author (Set resolved) answer is = inl is
faulted rules h reading author (Get patterns) answer is = inr is

faulted_by : (line : Line) (state : ScriptState) (event : Event) (look : Option (List (List Elem))) → line_event line state ≡ Some event → (book_behind (Some event) state).failed ≡ true → IsFaulted (look_reply look line state)
faulted_by line state event None is failed =
    faulted (rules_in state) state.history event.reading event.author event.request (event_reply (line_event line state) state)
    (ap (λ e. event_reply e state) is ∙ ap (λ f. Some (request_reply (rules_in state) state.history event.reading event.author event.request f)) failed)
faulted_by line state event (Some patterns) is failed =
    let failed_here : (book_behind (line_event line state) state).failed ≡ true = ap (λ e. (book_behind e state).failed) is ∙ failed in
    inr (ap (λ f. Some (OfGet (looked_by f state.history state.reading (line_look line state)))) failed_here)

answer_expires : (h : List Entry) (judged : Result Entry Refusal) → (later : List Entry) × (with_answer h judged ≡ h ++ later)
answer_expires h (Ok entry) = (entry ∷ [], refl)
answer_expires h (Err refusal) = ([], sym (append-nil h))

expires : (rules : Rules) (h : List Entry) (reading author : ℕ) (request : Request) → takes_turn request ≡ true → (later : List Entry) × (history_after_request rules h reading author request ≡ after_expiry h reading ++ later)
expires rules h reading author (Set (Ok ask)) takes = answer_expires (after_expiry h reading) (step rules h reading author ask)
expires rules h reading author (Set (Err refusal)) takes = absurd (true≢false (sym takes))
expires rules h reading author (Get patterns) takes = by (list_any is_long patterns) takes
  where
    by : (long : Bool) → not long ≡ true → (later : List Entry) × ((if long then h else after_expiry h reading) ≡ after_expiry h reading ++ later)
    by true short = absurd (true≢false (sym short))
    by false short = ([], sym (append-nil (after_expiry h reading)))

left_history : (line : Line) (state : ScriptState) → (state_after line state).history ≡ (book_behind (line_event line state) state).history
unfolding state_after
left_history line state = refl

pub expiries_stand : (line : Line) (state : ScriptState) (event : Event) → line_event line state ≡ Some event → takes_turn event.request ≡ true → IsFaulted (line_answer line state) ⊎ ((later : List Entry) × ((state_after line state).history ≡ after_expiry state.history state.reading ++ later))
expiries_stand line state event is takes = by (book_behind (Some event) state).failed refl
  where
    by : (failed : Bool) → (book_behind (Some event) state).failed ≡ failed → IsFaulted (line_answer line state) ⊎ ((later : List Entry) × ((state_after line state).history ≡ after_expiry state.history state.reading ++ later))
    by true same = inl (faulted_by line state event (line_look line state) is same)
    by false same =
        let stands = expires (rules_in state) state.history event.reading event.author event.request takes in
        inr (
          stands.0,
          left_history line state ∙ ap (λ e. (book_behind e state).history) is ∙ (event_leaves state event).done same
              ∙ stands.1 ∙ ap (λ r. after_expiry state.history r ++ stands.0) (reading_is line state event is),
        )
