-- Wrong answers break the promise.
use Rattle.std.proofs.Common.{◌≡◌, ◌⊎◌, inl, inr, ℕ, zero, suc, ◌≤◌, List, [], ◌∷◌, ◌++◌, refl, sym, ap, ◌∙◌, subst, arith, take, Option, Some, None, Result, Ok, Err}
use Rattle.base_kinds.specs.declared.entry.Entry.{Entry}
use Rattle.base_kinds.specs.declared.refusal.Refusal.{Refusal}
use Rattle.base_kinds.specs.History.{stamp_of, world_of}
use Rattle.base_kinds.specs.Parts.{part}
use Rattle.book_port.specs.Follows.{Turn, Follows}
use Rattle.commit_journal.specs.Images.{IsOneOf, histories_or}
use Rattle.base_kinds.specs.declared.operation.Row.{Row}
use Rattle.base_kinds.specs.declared.value.Value.{Value}
use Rattle.base_kinds.specs.declared.value.Value.TheVariants as values
use Rattle.gnmi_kinds.specs.declared.reply.SubReply.{SubReply}
use Rattle.gnmi_kinds.specs.declared.reply.SubReply.TheVariants as replies
use Rattle.journal_format.proofs.Runs.{one_history}
use Rattle.request_desk.specs.Answers.{Answers}
use Rattle.request_desk.specs.Services.{task_of}
use Rattle.session_core.specs.Deeds.{Deed, Doing, told}
use Rattle.sub_plan.specs.Groups.{patterns_of}
use Rattle.program.specs.headline.Marks.{IsUpToMark}
use Rattle.program.specs.headline.Sessions.{IsDoneTo, Replies}
use Rattle.program.specs.headline.Terms.{ChangesNothing, IsAt, IsPrefix}
use Rattle.program.specs.worked.Headlines.{AcknowledgedTwice, BeforeTheOwnSet, GoesBack, LostInACrash, OfAnotherHistory, OfNoState, RefusedAndDone, cleared, early_turn, everything, named, note_of_name, row, set_turn, strange_turn}
use Rattle.program.proofs.headline.Marking.{no_later}
use Rattle.std.specs.List.{AllByRecursion}
use Rattle.std.specs.Prelude.{codes}
use Rattle.book_port.specs.Chronicles.{entries_by}
use Rattle.book_port.specs.Follows.{made_by}

-- ---- turns

other_commit : (later : List Entry) → named ∷ [] ≡ (cleared ∷ []) ++ later → ⊥
other_commit later is =
    let same : named ≡ cleared = cc is in
    let number : named.number ≡ cleared.number = ap (λ (entry : Entry). entry.number) same in
    omega (arith, number)

pub of_another_history : OfAnotherHistory
of_another_history schema rules deeds turns part_of =
    let at = subst (λ (ts : List Turn). AllByRecursion (IsAt (named ∷ [])) ts) turns part_of.at in
    other_commit at.0.found.0 at.0.found.1

pub before_the_own_set : BeforeTheOwnSet
before_the_own_set schema rules deeds turns part_of =
    let follows = subst (λ (ts : List Turn). Follows 2 [] ts (named ∷ [])) turns part_of.in_order in
    none follows.1.0.others follows.1.0.whole
  where
    none : (others : List Entry) → [] ≡ (named ∷ []) ++ others → ⊥
    none others is = cc is

pub acknowledged_twice : AcknowledgedTwice
acknowledged_twice schema rules deeds turns part_of =
    let once : entries_by 2 (named ∷ []) ≡ made_by 2 (set_turn ∷ set_turn ∷ []) = subst (λ (ts : List Turn). entries_by 2 (named ∷ []) ≡ made_by 2 ts) turns part_of.once in
    two once
  where
    two : named ∷ [] ≡ named ∷ named ∷ [] → ⊥
    two is = cc is

-- ---- a refusal

no_commit : ChangesNothing set_turn → ⊥
no_commit (inl same) = cc same
no_commit (inr ended) = cc (ended.0)

told_refusal : (result : Result (List ℕ) Refusal) (refusal : Refusal) → told (Err refusal) ≡ told result → (other : Refusal) × (result ≡ Err other)
told_refusal (Ok message) refusal is = absurd (cc is)
told_refusal (Err other) refusal is = (other, refl)

pub refused_and_done : RefusedAndDone
refused_and_done schema rules author method body refusal deed doing said turn answered =
    let replies_so : Replies (Answers rules author (task_of schema method body) deed.turn) deed = subst (λ (d : Doing). IsDoneTo schema rules author d deed) doing answered in
    let refused = told_refusal replies_so.result refusal (sym said ∙ replies_so.says) in
    no_commit (replies_so.refused refused.0 set_turn refused.1 turn)

-- ---- streams

-- the second octet of the name that is told
abbrev text_in : Value → List ℕ
text_in (values.Text text) = text
text_in _ = []

abbrev name_in : List Row → List ℕ
name_in [] = []
name_in (told ∷ rows) = text_in told.value

abbrev second_octet : List ℕ → ℕ
second_octet [] = 0
second_octet (octet ∷ []) = 0
second_octet (octet ∷ next ∷ octets) = next

one_commit : (position : ℕ) → (take position (named ∷ []) ≡ []) ⊎ (take position (named ∷ []) ≡ named ∷ [])
one_commit zero = inl refl
one_commit (suc n) = inr (ap (λ (l : List Entry). named ∷ l) (no_later n [] refl))

pub of_no_state : OfNoState
of_no_state folds =
    let mark = folds.mark (note_of_name 1000 (codes "r2") ∷ replies.Sync ∷ []) (([], refl), refl) in
    by_position (take mark.position (named ∷ [])) (one_commit mark.position) (mark.whole ((_, refl, refl), tt))
  where
    by_position : (prefix : List Entry) → (prefix ≡ []) ⊎ (prefix ≡ named ∷ []) → row (codes "r2") ∷ [] ≡ part (patterns_of everything.lines) (world_of prefix).tree → ⊥
    by_position prefix (inl none) is = nothing (subst (λ (p : List Entry). row (codes "r2") ∷ [] ≡ part (patterns_of everything.lines) (world_of p).tree) none is)
      where
        nothing : row (codes "r2") ∷ [] ≡ [] → ⊥
        nothing same = cc same
    by_position prefix (inr one) is = another (subst (λ (p : List Entry). row (codes "r2") ∷ [] ≡ part (patterns_of everything.lines) (world_of p).tree) one is)
      where
        another : row (codes "r2") ∷ [] ≡ row (codes "r1") ∷ [] → ⊥
        another same = let octet : ◌≡◌ {A = ℕ} 50 49 = ap (λ (rows : List Row). second_octet (name_in rows)) same in omega (arith, octet)

abbrev both : List Entry
both = named ∷ cleared ∷ []

second : (position : ℕ) → 2000 ≡ stamp_of (take position both) → 2 ≤ position
second zero is = absurd (omega (arith, is))
second (suc zero) is = absurd (omega (arith, is))
second (suc (suc n)) is = omega (arith)

first : (position : ℕ) → 1000 ≡ stamp_of (take position both) → position ≤ 1
first zero is = omega (arith)
first (suc zero) is = omega (arith)
first (suc (suc n)) is = absurd (third (is ∙ ap (λ (l : List Entry). stamp_of (named ∷ cleared ∷ l)) (no_later n [] refl)))
  where
    third : ◌≡◌ {A = ℕ} 1000 2000 → ⊥
    third same = omega (arith, same)

pub goes_back : GoesBack
goes_back folds =
    let early : List SubReply = replies.Note (record { stamp = 2000; deletes = []; updates = [] }) ∷ replies.Sync ∷ [] in
    let later : List SubReply = note_of_name 1000 (codes "r1") ∷ [] in
    let one : IsUpToMark (early ++ later) early = ((later, refl), refl) in
    let two : IsUpToMark (early ++ later) (early ++ later) = (([], refl), refl) in
    let up = second (folds.mark early one).position (folds.mark early one).stamp in
    let down = first (folds.mark (early ++ later) two).position (folds.mark (early ++ later) two).stamp in
    let rises = folds.rises early later one two in
    omega (arith, up, down, rises)

-- ---- a crash

kept : (doubt : Option Entry) (found : List Entry) → IsOneOf (histories_or (named ∷ []) doubt) found → [] ≡ found → ⊥
kept None found (inl is) none = let same : [] ≡ named ∷ [] = none ∙ is in cc same
kept None found (inr is) none = is
kept (Some attempt) found (inl is) none = let same : [] ≡ named ∷ [] = none ∙ is in cc same
kept (Some attempt) found (inr (inl is)) none = let same : [] ≡ named ∷ attempt ∷ [] = none ∙ is in cc same
kept (Some attempt) found (inr (inr is)) none = is

pub lost_in_a_crash : LostInACrash
lost_in_a_crash limits doubt mask octets image journal survives =
    let keeps = survives octets image in
    kept doubt keeps.found keeps.is_one (one_history octets limits limits [] keeps.found journal keeps.journal).1
