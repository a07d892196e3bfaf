-- Which history an event leaves, by whether a call of the disk failed in its turn.
use Rattle.std.proofs.Common.{◌≡◌, ◌⊎◌, ℕ, List, Bool, true, false, not, Option, Some, None, Result, Ok, Err, refl, sym, ap, ◌∙◌, inl, inr, if◌then◌else◌}
use Rattle.std.specs.List.{list_any}
use Rattle.base_kinds.specs.declared.entry.Entry.{Entry}
use Rattle.base_kinds.specs.declared.refusal.Refusal.{Refusal}
use Rattle.base_kinds.specs.Events.{Request, Set, Get, Event, is_long, history_after_request, history_after, event_answer, request_answer}
use Rattle.base_kinds.specs.Step.{Rules, after_expiry, step, with_answer}
use Rattle.disk_model.specs.Arming.{Arming, unarmed}
use Rattle.book_core.specs.Calls.{expiry_entry, answer_entry, repair_calls}
use Rattle.script_run.specs.Turns.{BookState, failed_call, settled, settled_by, entered, entered_by, turn, takes_turn, requested_entry, book_after, turn_answer, request_reply}
use Rattle.script_run.proofs.Turns.{book, with_entry, expiry_is, unarmed_turn}

-- what is entered: the entry where no call failed, and nothing where one did
record Enters (h : List Entry) (asked : Option Entry) (before : Bool) (left : BookState) : Type 0 where
  done : left.failed ≡ false → left.history ≡ with_entry h asked
  cut : left.failed ≡ true → left.history ≡ h
  first : left.failed ≡ false → before ≡ false

true≢false : true ≡ false → ⊥
true≢false is = cc is

enters_by : (h : List Entry) (doubt : Option Entry) (arming : Arming) (entry : Entry) (call : Option ℕ) → Enters h (Some entry) false (entered_by call entry (book h doubt arming false))
enters_by h doubt arming entry None = record { done = λ _. refl; cut = λ is. absurd (true≢false (sym is)); first = λ _. refl }
enters_by h doubt arming entry (Some call) = record { done = λ is. absurd (true≢false is); cut = λ _. refl; first = λ _. refl }

enters : (h : List Entry) (doubt : Option Entry) (arming : Arming) (before : Bool) (asked : Option Entry) → Enters h asked before (entered asked (book h doubt arming before))
enters h doubt arming before None = record { done = λ _. refl; cut = λ _. refl; first = λ is. is }
enters h doubt arming true (Some entry) = record { done = λ is. absurd (true≢false is); cut = λ _. refl; first = λ is. is }
enters h doubt arming false (Some entry) = enters_by h doubt arming entry (failed_call 4 arming)

settles_history : (h : List Entry) (doubt : Option Entry) (arming : Arming) (call : Option ℕ) → (settled_by call (book h doubt arming false)).history ≡ h
settles_history h doubt arming None = refl
settles_history h doubt arming (Some call) = refl

-- ---- a turn

-- The history that is left: the one meant, where no call failed, and else the one found, or that with the event of the clock.
pub record Leaves (h : List Entry) (reading : ℕ) (meant : List Entry) (left : BookState) : Type 0 where
  pub done : left.failed ≡ false → left.history ≡ meant
  pub cut : left.failed ≡ true → (left.history ≡ h) ⊎ (left.history ≡ after_expiry h reading)

cut_by : (h left mid behind : List Entry) (b : Bool) → left ≡ mid → (b ≡ false → mid ≡ behind) → (b ≡ true → mid ≡ h) → (left ≡ h) ⊎ (left ≡ behind)
cut_by h left mid behind true same passed failed = inl (same ∙ failed refl)
cut_by h left mid behind false same passed failed = inr (same ∙ passed refl)

pub turn_leaves : (h : List Entry) (doubt : Option Entry) (arming : Arming) (reading : ℕ) (asked : Option Entry) → Leaves h reading (with_entry (after_expiry h reading) asked) (turn reading asked (book h doubt arming false))
unfolding turn
turn_leaves h doubt arming reading asked =
    let first : BookState = settled (book h doubt arming false) in
    let second : BookState = entered (expiry_entry h reading) first in
    let same : first.history ≡ h = settles_history h doubt arming (failed_call (repair_calls doubt) arming) in
    let expires = enters first.history first.doubt first.arming first.failed (expiry_entry h reading) in
    let asks = enters second.history second.doubt second.arming second.failed asked in
    let behind : second.failed ≡ false → second.history ≡ after_expiry h reading = λ is. expires.done is ∙ ap (λ l. with_entry l (expiry_entry h reading)) same ∙ expiry_is h reading in
    record {
      done = λ is. asks.done is ∙ ap (λ l. with_entry l asked) (behind (asks.first is));
      cut = λ is. cut_by h (turn reading asked (book h doubt arming false)).history second.history (after_expiry h reading) second.failed (asks.cut is) behind (λ failed. expires.cut failed ∙ same);
    }

-- ---- a request

with_answer_is : (h : List Entry) (answer : Result Entry Refusal) → with_entry h (answer_entry answer) ≡ with_answer h answer
with_answer_is h (Ok entry) = refl
with_answer_is h (Err refusal) = refl

-- the book behind a request
abbrev pub request_turn : Rules → List Entry → Option Entry → Arming → ℕ → ℕ → Request → BookState
request_turn rules h doubt arming reading author request =
    if takes_turn request then turn reading (requested_entry rules h reading author request) (book h doubt arming false) else book h doubt arming false

leaves_meant : (h : List Entry) (reading : ℕ) (meant other : List Entry) (left : BookState) → meant ≡ other → Leaves h reading meant left → Leaves h reading other left
leaves_meant h reading meant other left same leaves = record { done = λ is. leaves.done is ∙ same; cut = leaves.cut }

leaves_found : (h : List Entry) (doubt : Option Entry) (arming : Arming) (reading : ℕ) → Leaves h reading h (book h doubt arming false)
leaves_found h doubt arming reading = record { done = λ _. refl; cut = λ is. absurd (true≢false (sym is)) }

pub request_leaves : (rules : Rules) (h : List Entry) (doubt : Option Entry) (arming : Arming) (reading author : ℕ) (request : Request) → Leaves h reading (history_after_request rules h reading author request) (request_turn rules h doubt arming reading author request)
request_leaves rules h doubt arming reading author (Set (Ok ask)) =
    let judged : Result Entry Refusal = step rules h reading author ask in
    leaves_meant h reading (with_entry (after_expiry h reading) (answer_entry judged)) (with_answer (after_expiry h reading) judged) (turn reading (answer_entry judged) (book h doubt arming false)) (with_answer_is (after_expiry h reading) judged) (turn_leaves h doubt arming reading (answer_entry judged))
request_leaves rules h doubt arming reading author (Set (Err refusal)) = leaves_found h doubt arming reading
request_leaves rules h doubt arming reading author (Get patterns) = by (list_any is_long patterns)
  where
    by : (long : Bool) → Leaves h reading (if long then h else after_expiry h reading) (if not long then turn reading None (book h doubt arming false) else book h doubt arming false)
    by true = leaves_found h doubt arming reading
    by false = turn_leaves h doubt arming reading None

-- ---- a request on a disk for which nothing waits

abbrev pub quiet : List Entry → BookState
quiet h = book h None unarmed false

request_quiet : (rules : Rules) (h : List Entry) (reading author : ℕ) (request : Request) → request_turn rules h None unarmed reading author request ≡ quiet (history_after_request rules h reading author request)
request_quiet rules h reading author (Set (Ok ask)) = unarmed_turn h reading (answer_entry (step rules h reading author ask)) ∙ ap quiet (with_answer_is (after_expiry h reading) (step rules h reading author ask))
request_quiet rules h reading author (Set (Err refusal)) = refl
request_quiet rules h reading author (Get patterns) = by (list_any is_long patterns)
  where
    by : (long : Bool) → (if not long then turn reading None (quiet h) else quiet h) ≡ quiet (if long then h else after_expiry h reading)
    by true = refl
    by false = unarmed_turn h reading None

pub event_quiet : (rules : Rules) (h : List Entry) (event : Event) → book_after rules event (quiet h) ≡ quiet (history_after rules h event)
event_quiet rules h event = request_quiet rules h event.reading event.author event.request

reply_quiet : (rules : Rules) (h : List Entry) (reading author : ℕ) (request : Request) → request_reply rules h reading author request false ≡ request_answer rules h reading author request
reply_quiet rules h reading author (Set resolved) = refl
reply_quiet rules h reading author (Get patterns) = refl

pub answer_quiet : (rules : Rules) (h : List Entry) (event : Event) → turn_answer rules h event false ≡ event_answer rules h event
answer_quiet rules h event = reply_quiet rules h event.reading event.author event.request
