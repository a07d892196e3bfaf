-- What a book answers and leaves on a disk that is armed, and not starved then, is what a turn of it is.
use Rattle.std.proofs.Common.{◌≡◌, ◌≢◌, ℕ, ◌+◌, List, Bool, true, false, Option, None, Result, Ok, Err, IsErrOf, refl, sym, ap, ◌∙◌, subst, arith}
use Rattle.base_kinds.specs.declared.path.Elem.{Elem}
use Rattle.base_kinds.specs.declared.entry.Ask.{Ask}
use Rattle.base_kinds.specs.declared.entry.Entry.{Entry}
use Rattle.base_kinds.specs.declared.entry.View.{View}
use Rattle.base_kinds.specs.declared.refusal.Refusal.{Refusal}
use Rattle.base_kinds.specs.declared.refusal.Refusal.TheVariants as refusals
use Rattle.base_kinds.specs.Step.{Rules, after_expiry, step}
use Rattle.disk_model.specs.Arming.{Arming}
use Rattle.disk_model.specs.Calls.{CallsPassed}
use Rattle.book_core.specs.Calls.{CallsFor, answer_entry, append_calls, calls_before}
use Rattle.book_port.specs.Answers.{AnswersSet, AnswersLook}
use Rattle.script_run.specs.AnswerLines.{entry_stamp}
use Rattle.script_run.specs.Turns.{BookState, turn, unless_failed}
use Rattle.script_run.proofs.Turns.{fuse, book, with_entry, passed_of, passes, fails}

-- a call of the disk failed
abbrev pub is_fault : {T : Type 0} → Result T Refusal → Bool
is_fault (Ok value) = false
is_fault (Err refusals.DiskFault) = true
is_fault (Err refusal) = false

-- ---- a Set

pub record SetTaken (rules : Rules) (h : List Entry) (doubt : Option Entry) (now author : ℕ) (ask : Ask) (old : Arming) (result : Result ℕ Refusal) (left : BookState) : Type 0 where
  pub left_is : turn now (answer_entry (step rules h now author ask)) (book h doubt old false) ≡ left
  pub reply : result ≡ entry_stamp (unless_failed left.failed (step rules h now author ask))

pub set_taken : (rules : Rules) (h : List Entry) (doubt : Option Entry) (now author : ℕ) (ask : Ask) (result : Result ℕ Refusal) (left : List Entry) (doubt_left : Option Entry) (old new : Arming) (before after : Bool) → after ≡ false → result ≢ Err refusals.NoMemory
    → AnswersSet rules h now author ask result left → ((IsErrOf result refusals.DiskFault → ⊥) → (IsErrOf result refusals.NoMemory → ⊥) → doubt_left ≡ None)
    → CallsFor doubt h now (answer_entry (step rules h now author ask)) left doubt_left (fuse old before) (fuse new after) result
    → SetTaken rules h doubt now author ask old result (book left doubt_left new (is_fault result))
set_taken rules h doubt now author ask (Ok stamp) left doubt_left old new before after fed other answer settled calls =
    let judged : Result Entry Refusal = step rules h now author ask in
    let asked : Option Entry = answer_entry judged in
    let none : doubt_left ≡ None = settled (λ is. cc is) (λ is. cc is) in
    record {
      left_is =
          passes h doubt now asked old new (passed_of (calls_before doubt h now + append_calls asked) old new before after calls)
          ∙ ap (λ a. book (with_entry (after_expiry h now) (answer_entry a)) None new false) answer.judged
          ∙ ap (λ l. book l None new false) (sym answer.left_is)
          ∙ ap (λ d. book left d new false) (sym none);
      reply = ap Ok answer.stamp_is ∙ sym (ap entry_stamp answer.judged);
    }
set_taken rules h doubt now author ask (Err refusals.DiskFault) left doubt_left old new before after fed other answer settled calls =
    record { left_is = fails h doubt now (answer_entry (step rules h now author ask)) left doubt_left old new before after fed calls; reply = refl }
set_taken rules h doubt now author ask (Err refusals.NoMemory) left doubt_left old new before after fed other answer settled calls = absurd (other refl)
set_taken rules h doubt now author ask (Err refusal) left doubt_left old new before after fed other answer settled calls =
    let judged : Result Entry Refusal = step rules h now author ask in
    let asked : Option Entry = answer_entry judged in
    let none : doubt_left ≡ None = settled (λ is. cc is) (λ is. cc is) in
    let count : ℕ = calls_before doubt h now in
    let nothing : count ≡ count + append_calls asked = (let e : count ≡ count + 0 = omega arith in e) ∙ ap (λ a. count + append_calls (answer_entry a)) (sym answer.judged) in
    record {
      left_is =
          passes h doubt now asked old new (passed_of (count + append_calls asked) old new before after (subst (λ n. CallsPassed n (fuse old before) (fuse new after)) nothing calls))
          ∙ ap (λ a. book (with_entry (after_expiry h now) (answer_entry a)) None new false) answer.judged
          ∙ ap (λ l. book l None new false) (sym answer.left_is)
          ∙ ap (λ d. book left d new false) (sym none);
      reply = sym (ap entry_stamp answer.judged);
    }

-- ---- a look

abbrev look_turn : List Entry → Option Entry → ℕ → Arming → BookState
look_turn h doubt now arming = turn now None (book h doubt arming false)

pub looked : (h : List Entry) (doubt : Option Entry) (now : ℕ) (patterns : List (List Elem)) (view : View) (left : List Entry) (doubt_left : Option Entry) (old new : Arming) (before after : Bool) → AnswersLook h now patterns (Ok view) left → doubt_left ≡ None → CallsFor {T = View} doubt h now None left doubt_left (fuse old before) (fuse new after) (Ok view) → look_turn h doubt now old ≡ book left doubt_left new false
looked h doubt now patterns view left doubt_left old new before after answer none calls =
    passes h doubt now None old new (passed_of (calls_before doubt h now + 0) old new before after calls)
    ∙ ap (λ l. book l None new false) (sym answer.1)
    ∙ ap (λ d. book left d new false) (sym none)

-- it is refused for a fault of the disk alone
pub look_refused : (h : List Entry) (doubt : Option Entry) (now : ℕ) (patterns : List (List Elem)) (refusal : Refusal) (left : List Entry) (doubt_left : Option Entry) (old new : Arming) (before after : Bool) → after ≡ false → refusal ≢ refusals.NoMemory → AnswersLook h now patterns (Err refusal) left → CallsFor {T = View} doubt h now None left doubt_left (fuse old before) (fuse new after) (Err refusal) → (refusal ≡ refusals.DiskFault) × (look_turn h doubt now old ≡ book left doubt_left new true)
look_refused h doubt now patterns refusals.DiskFault left doubt_left old new before after fed other answer calls = (refl, fails h doubt now None left doubt_left old new before after fed calls)
look_refused h doubt now patterns refusals.NoMemory left doubt_left old new before after fed other answer calls = absurd (other refl)
look_refused h doubt now patterns refusal left doubt_left old new before after fed other answer calls = absurd answer
