-- What ends the open trial is answered with its stamp, or for the disk alone.
use Rattle.std.proofs.Common.{◌≡◌, ◌⊎◌, inl, inr, ℕ, ◌<◌, List, [], ◌∷◌, ◌++◌, length, append-nil, Result, Ok, Err, IsOk, IsErrOf, refl, sym, ap, ◌∙◌, subst, arith}
use Rattle.base_kinds.specs.declared.path.Elem.{Elem}
use Rattle.base_kinds.specs.declared.entry.Ask.{Ask}
use Rattle.base_kinds.specs.declared.entry.Ask.TheVariants as asks
use Rattle.base_kinds.specs.declared.entry.Entry.{Entry}
use Rattle.base_kinds.specs.declared.entry.View.{View}
use Rattle.base_kinds.specs.declared.refusal.Refusal.{Refusal}
use Rattle.base_kinds.specs.declared.refusal.Refusal.TheVariants as refusals
use Rattle.base_kinds.specs.Step.{Rules, after_expiry, judge, kind_of_ask, new_stamp, next_entry, step}
use Rattle.history_laws.specs.TrialLaws.{ClosesTrial}
use Rattle.history_laws.proofs.Closings.{closings_are_taken}
use Rattle.book_port.specs.declared.happening.Happening.{Happening}
use Rattle.book_port.specs.Answers.{AnswersSet, AnswersLook}
use Rattle.book_port.specs.Chronicles.{Adds, entered, history_of, marks_of}
use Rattle.book_port.proofs.Answering.{quiet_expiry}
use Rattle.book_port.proofs.Chronicled.{marks_of_entered, marks_of_more}
use Rattle.commit_core.specs.CoreView.{EndsTrial}
use Rattle.book_core.specs.Views.{most_marks}
use Rattle.book_core.specs.laws.ClosingLaws.{EndsOpenTrial, HasMarkRoom, IsAnswered, IsSetOn, IsLookOn}

abbrev ending_entry : List Entry → ℕ → ℕ → Ask → Entry
ending_entry h now author ask = next_entry h (new_stamp h now) author (kind_of_ask (new_stamp h now) ask)

pub endings_are_accepted : (rules : Rules) (h : List Entry) (now author : ℕ) (ask : Ask) → EndsOpenTrial h now ask → step rules h now author ask ≡ Ok (ending_entry h now author ask)
endings_are_accepted rules h now author ask ends =
    ap (λ es. judge rules es now author ask) (quiet_expiry h now ends.not_due)
    ∙ closings_are_taken rules h now author ends.trial ask ends.was_open ends.closes

ends_trial : (id : List ℕ) (ask : Ask) → ClosesTrial id ask → EndsTrial ask
ends_trial id (asks.Confirm other) closes = tt
ends_trial id (asks.Cancel other) closes = tt
ends_trial id (asks.Apply ops) closes = closes
ends_trial id (asks.Trial other ops duration) closes = closes
ends_trial id (asks.Extend other duration) closes = closes

-- ---- the room of a mark

unmarked : (old new : List Happening) (entries : List Entry) → new ≡ old ++ (entered entries ++ []) → marks_of new ≡ marks_of old
unmarked old new entries is =
    ap marks_of is ∙ marks_of_more old (entered entries ++ [])
    ∙ ap (λ ms. marks_of old ++ ms) (marks_of_more (entered entries) [] ∙ append-nil (marks_of (entered entries)) ∙ marks_of_entered entries)
    ∙ append-nil (marks_of old)

marks_after : {T : Type 0} (author : ℕ) (result : Result T Refusal) (old new : List Happening) → Adds author result old new → (IsErrOf result refusals.DiskFault → ⊥) → marks_of new ≡ marks_of old
marks_after author (Ok value) old new adds none = unmarked old new adds.entries adds.whole
marks_after author (Err refusals.DiskFault) old new adds none = absurd (none refl)
marks_after author (Err refusal) old new adds none = unmarked old new adds.entries adds.whole

pub answered_leave_room : (T : Type 0) (author : ℕ) (result : Result T Refusal) (old new : List Happening) → IsAnswered author result old new → HasMarkRoom new
answered_leave_room T author result old new answered =
    subst (λ ms. length ms < most_marks) (sym (marks_after author result old new answered.adds answered.no_fault)) (answered.room answered.no_want)

pub openings_leave_room : (h : List Entry) → HasMarkRoom (entered h)
openings_leave_room h = let none : length (marks_of (entered h)) ≡ 0 = ap length (marks_of_entered h) in omega (arith, none)

-- ---- the answers

-- a refusal of the rules is none where they accept
accepted_only : (rules : Rules) (h : List Entry) (now author : ℕ) (ask : Ask) (entry : Entry) (result : Result ℕ Refusal) (left : List Entry) → step rules h now author ask ≡ Ok entry → AnswersSet rules h now author ask result left → (IsErrOf result refusals.NoMemory → ⊥) → IsOk result ⊎ IsErrOf result refusals.DiskFault
accepted_only rules h now author ask entry (Ok stamp) left accepted answer none = inl refl
accepted_only rules h now author ask entry (Err refusals.DiskFault) left accepted answer none = inr refl
accepted_only rules h now author ask entry (Err refusals.NoMemory) left accepted answer none = absurd (none refl)
accepted_only rules h now author ask entry (Err refusal) left accepted answer none = let both : (let r : Result Entry Refusal = Ok entry in r) ≡ Err refusal = sym accepted ∙ answer.judged in absurd (cc both)

pub endings_are_answered : (rules : Rules) (now author : ℕ) (ask : Ask) (result : Result ℕ Refusal) (found left : List Happening) → HasMarkRoom found → EndsOpenTrial (history_of found) now ask → IsSetOn rules now author ask result found left → IsOk result ⊎ IsErrOf result refusals.DiskFault
endings_are_answered rules now author ask result found left room ends is_set =
    accepted_only rules (history_of found) now author ask (ending_entry (history_of found) now author ask) result (history_of left) (endings_are_accepted rules (history_of found) now author ask ends) is_set.answer
    (λ memory. (is_set.closes memory room).1 (ends_trial ends.trial.id ask ends.closes))

set_expires : (rules : Rules) (h : List Entry) (now author : ℕ) (ask : Ask) (result : Result ℕ Refusal) (left : List Entry) → AnswersSet rules h now author ask result left → (IsErrOf result refusals.NoMemory → left ≡ after_expiry h now) → IsErrOf result refusals.DiskFault ⊎ ((later : List Entry) × (left ≡ after_expiry h now ++ later))
set_expires rules h now author ask (Ok stamp) left answer memory = inr (answer.entry ∷ [], answer.left_is)
set_expires rules h now author ask (Err refusals.DiskFault) left answer memory = inl refl
set_expires rules h now author ask (Err refusals.NoMemory) left answer memory = inr ([], memory refl ∙ sym (append-nil (after_expiry h now)))
set_expires rules h now author ask (Err refusal) left answer memory = inr ([], answer.left_is ∙ sym (append-nil (after_expiry h now)))

pub sets_expire : (rules : Rules) (now author : ℕ) (ask : Ask) (result : Result ℕ Refusal) (found left : List Happening) → HasMarkRoom found → IsSetOn rules now author ask result found left → IsErrOf result refusals.DiskFault ⊎ ((later : List Entry) × (history_of left ≡ after_expiry (history_of found) now ++ later))
sets_expire rules now author ask result found left room is_set =
    set_expires rules (history_of found) now author ask result (history_of left) is_set.answer (λ memory. (is_set.closes memory room).0)

look_expires : (h : List Entry) (now : ℕ) (patterns : List (List Elem)) (result : Result View Refusal) (left : List Entry) → AnswersLook h now patterns result left → (IsErrOf result refusals.NoMemory → left ≡ after_expiry h now) → IsErrOf result refusals.DiskFault ⊎ (left ≡ after_expiry h now)
look_expires h now patterns (Ok view) left answer memory = inr answer.1
look_expires h now patterns (Err refusals.DiskFault) left answer memory = inl refl
look_expires h now patterns (Err refusals.NoMemory) left answer memory = inr (memory refl)
look_expires h now patterns (Err refusal) left answer memory = absurd answer

pub looks_expire : (now : ℕ) (patterns : List (List Elem)) (result : Result View Refusal) (found left : List Happening) → HasMarkRoom found → IsLookOn now patterns result found left → IsErrOf result refusals.DiskFault ⊎ (history_of left ≡ after_expiry (history_of found) now)
looks_expire now patterns result found left room looks =
    look_expires (history_of found) now patterns result (history_of left) looks.answer (λ memory. looks.memory memory room)
