-- What the parts of a call answer and add.
use Rattle.std.proofs.Common.{◌≡◌, ◌≢◌, inl, inr, ℕ, List, [], ◌∷◌, ◌++◌, false, Option, Some, None, Result, Ok, Err, IsErrAnd, refl, sym, ap, ◌∙◌, subst, append-nil, append_assoc}
use Rattle.std.specs.List.{AllByRecursion}
use Rattle.std.proofs.lemmas.List.{map-append}
use Rattle.base_kinds.specs.declared.entry.Entry.{Entry}
use Rattle.base_kinds.specs.declared.entry.Ask.{Ask}
use Rattle.base_kinds.specs.declared.refusal.Refusal.{Refusal}
use Rattle.base_kinds.specs.declared.refusal.Refusal.TheVariants as refusals
use Rattle.base_kinds.specs.Step.{Rules, is_due, after_expiry, step, judge, with_answer}
use Rattle.book_port.specs.declared.happening.Happening.{Happening}
use Rattle.book_port.specs.declared.happening.Happening.TheVariants.{Entered}
use Rattle.book_port.specs.Answers.{AnswersSet, set_stages, look_stages}
use Rattle.book_port.specs.Chronicles.{marks_of, entered, mark_after, IsBy, Adds}
use Rattle.book_port.proofs.Answering.{quiet_expiry, expires_once, step_again, judged_without_disk}
use Rattle.book_port.proofs.Chronicled.{marks_of_more, marks_of_entered}
use Rattle.book_core.specs.Moments.{IsAttempted}

-- a refusal where nothing is due
pub refused_now : (rules : Rules) (h : List Entry) (now author : ℕ) (ask : Ask) (refusal : Refusal) → is_due h now ≡ false → (refusal ≢ refusals.NoMemory → judge rules h now author ask ≡ Err refusal) → AnswersSet rules h now author ask (Err refusal) h
refused_now rules h now author ask refusals.DiskFault quiet judged = inl refl
refused_now rules h now author ask refusals.NoMemory quiet judged = inl refl
refused_now rules h now author ask refusal quiet judged = record { judged = ap (λ es. judge rules es now author ask) (quiet_expiry h now quiet) ∙ judged (λ is. cc is); left_is = sym (quiet_expiry h now quiet) }

pub accepted_now : (rules : Rules) (h : List Entry) (now author : ℕ) (ask : Ask) (entry : Entry) (left : List Entry) → is_due h now ≡ false → judge rules h now author ask ≡ Ok entry → left ≡ h ++ entry ∷ [] → AnswersSet rules h now author ask (Ok entry.stamp) left
accepted_now rules h now author ask entry left quiet judged is = record { entry = entry; judged = ap (λ es. judge rules es now author ask) (quiet_expiry h now quiet) ∙ judged; stamp_is = refl; left_is = is ∙ ap (λ es. es ++ entry ∷ []) (sym (quiet_expiry h now quiet)) }

-- the history with the answer, where nothing is due
pub with_entry : (rules : Rules) (h : List Entry) (now author : ℕ) (ask : Ask) (entry : Entry) → is_due h now ≡ false → judge rules h now author ask ≡ Ok entry → with_answer (after_expiry h now) (step rules h now author ask) ≡ h ++ entry ∷ []
with_entry rules h now author ask entry quiet judged =
    ap (λ es. with_answer es (judge rules es now author ask)) (quiet_expiry h now quiet) ∙ ap (λ answer. with_answer h answer) judged

pub refused_no_fault : (rules : Rules) (h : List Entry) (now author : ℕ) (ask : Ask) (refusal : Refusal) → (refusal ≢ refusals.NoMemory → judge rules h now author ask ≡ Err refusal) → refusal ≢ refusals.DiskFault
refused_no_fault rules h now author ask refusal judged is =
    judged_without_disk rules h now author ask (judged (λ other. no_both (sym is ∙ other)) ∙ ap Err is)
  where
    no_both : refusals.DiskFault ≡ refusals.NoMemory → ⊥
    no_both same = cc same

-- any other refusal leaves no mark
pub unmarked : (T : Type 0) (author : ℕ) (refusal : Refusal) → refusal ≢ refusals.DiskFault → mark_after {T = T} author (Err refusal) ≡ []
unmarked T author refusals.DiskFault other = absurd (other refl)
unmarked T author refusal other = refl

pub error_is : {T : Type 0} (result : Result T Refusal) (refusal : Refusal) → IsErrAnd result (λ e. e ≡ refusal) → result ≡ Err refusal
error_is (Ok value) refusal is = absurd is
error_is (Err e) refusal is = ap Err is

pub fault_answers : (rules : Rules) (h : List Entry) (now author : ℕ) (ask : Ask) (refusal : Refusal) (left : List Entry) → refusal ≡ refusals.DiskFault → left ≡ h → AnswersSet rules h now author ask (Err refusal) left
fault_answers rules h now author ask refusal left is same = subst (λ (r : Refusal). AnswersSet rules h now author ask (Err r) left) (sym is) (inl same)

-- entries, and then what an answer adds
pub adds_then : {S T : Type 0} (author : ℕ) (value : S) (result : Result T Refusal) (a b c : List Happening) → Adds author (let r : Result S Refusal = Ok value in r) a b → Adds author result b c → Adds author result a c
adds_then author value result a b c first second = record {
  entries = first.entries ++ second.entries;
  by = all_both first.entries second.entries first.by second.by;
  whole = second.whole ∙ ap (λ l. l ++ (entered second.entries ++ mark_after author result)) (first.whole ∙ ap (λ l. a ++ l) (append-nil (entered first.entries)))
      ∙ append_assoc a (entered first.entries) (entered second.entries ++ mark_after author result)
      ∙ ap (λ l. a ++ l) (sym (append_assoc (entered first.entries) (entered second.entries) (mark_after author result)) ∙ ap (λ l. l ++ mark_after author result) (sym (map-append Entered first.entries second.entries)));
}
  where
    all_both : (xs ys : List Entry) → AllByRecursion (IsBy author) xs → AllByRecursion (IsBy author) ys → AllByRecursion (IsBy author) (xs ++ ys)
    all_both [] ys one two = two
    all_both (x ∷ xs) ys one two = (one.0, all_both xs ys one.1 two)

pub marks_same : {S : Type 0} (author : ℕ) (value : S) (a b : List Happening) → Adds author (let r : Result S Refusal = Ok value in r) a b → marks_of b ≡ marks_of a
marks_same author value a b adds = ap marks_of adds.whole ∙ marks_of_more a (entered adds.entries ++ []) ∙ ap (λ ms. marks_of a ++ ms) (marks_of_more (entered adds.entries) [] ∙ append-nil (marks_of (entered adds.entries)) ∙ marks_of_entered adds.entries) ∙ append-nil (marks_of a)

pub last_again : (rules : Rules) (h : List Entry) (now author : ℕ) (ask : Ask) → with_answer (after_expiry (after_expiry h now) now) (step rules (after_expiry h now) now author ask) ≡ with_answer (after_expiry h now) (step rules h now author ask)
last_again rules h now author ask = λ i. with_answer (expires_once h now i) (step_again rules h now author ask i)

-- what is attempted behind the clock's event is attempted over the history found
pub attempted_behind : (rules : Rules) (h : List Entry) (now author : ℕ) (ask : Ask) (left : List Entry) (doubt : Option Entry) → IsAttempted (set_stages rules (after_expiry h now) now author ask) left doubt → IsAttempted (set_stages rules h now author ask) left doubt
attempted_behind rules h now author ask left None is = tt
attempted_behind rules h now author ask left (Some e) (inl is) = inr (inl is)
attempted_behind rules h now author ask left (Some e) (inr (inl is)) = inr (inl (is ∙ expires_once h now))
attempted_behind rules h now author ask left (Some e) (inr (inr (inl is))) = inr (inr (inl (is ∙ last_again rules h now author ask)))
attempted_behind rules h now author ask left (Some e) (inr (inr (inr none))) = absurd none

pub attempted_look : (rules : Rules) (h : List Entry) (now author : ℕ) (ask : Ask) (left : List Entry) (doubt : Option Entry) → IsAttempted (look_stages h now) left doubt → IsAttempted (set_stages rules h now author ask) left doubt
attempted_look rules h now author ask left None is = tt
attempted_look rules h now author ask left (Some e) (inl is) = inl is
attempted_look rules h now author ask left (Some e) (inr (inl is)) = inr (inl is)
attempted_look rules h now author ask left (Some e) (inr (inr none)) = absurd none
