-- The calls of one name among those that a script has open.
use Rattle.std.specs.Prelude.{nat_lt, option_map, position}
use Rattle.std.proofs.Common.{◌≡◌, ℕ, suc, ◌+◌, List, [], ◌∷◌, ◌++◌, Bool, true, false, true≢false, cond, filter, refl, sym, ap, ◌∙◌, subst, append-nil, arith, is_some, Option, Some, None}
use Rattle.std.specs.Str.{bytes_eq}
use Rattle.std.proofs.lemmas.Iterator.Adapters.{position_from-zero}
use Rattle.std.proofs.lemmas.List.Elements.{filter-append}
use Rattle.std.proofs.lemmas.Slice.Eq.{bytes_eq-Decides}
use Rattle.std.specs.List.{position_from}
use Rattle.script_run.specs.OpenCalls.{call_at, call_named, has_name, with_call, without_call, without_place}
use Rattle.script_run.specs.declared.calls.NamedCall.{NamedCall}
use Rattle.script_run.specs.declared.calls.OpenCall.{OpenCall}

-- ---- where the first one is

from_next : {X : Type 0} (t : X → Bool) (i : ℕ) (xs : List X) → position_from t (i + 1) xs ≡ option_map suc (position_from t i xs)
from_next t i [] = refl
from_next t i (x ∷ xs) = by_test (t x) (from_next t (i + 1) xs)
  where
    by_test : (b : Bool) → position_from t (i + 1 + 1) xs ≡ option_map suc (position_from t (i + 1) xs) → cond b (Some (i + 1)) (position_from t (i + 1 + 1) xs) ≡ option_map suc (cond b (Some i) (position_from t (i + 1) xs))
    by_test true rest = let next : i + 1 ≡ suc i = omega (arith) in ap Some next
    by_test false rest = rest

position_cons : {X : Type 0} (t : X → Bool) (x : X) (xs : List X) → position t (x ∷ xs) ≡ cond (t x) (Some 0) (option_map suc (position t xs))
position_cons t x xs = position_from-zero t (x ∷ xs) ∙ ap (λ (o : Option ℕ). cond (t x) (Some 0) o) (from_next t 0 xs ∙ ap (option_map suc) (sym (position_from-zero t xs)))

-- ---- by the first call of the list

named_cons : (name : List ℕ) (x : NamedCall) (xs : List NamedCall) → call_named name (x ∷ xs) ≡ cond (has_name name x) (Some x.call) (call_named name xs)
named_cons name x xs = ap (λ (o : Option ℕ). call_at o (x ∷ xs)) (position_cons (has_name name) x xs) ∙ by_test (has_name name x) (position (has_name name) xs)
  where
    by_test : (b : Bool) (place : Option ℕ) → call_at (cond b (Some 0) (option_map suc place)) (x ∷ xs) ≡ cond b (Some x.call) (call_at place xs)
    by_test true place = refl
    by_test false None = refl
    by_test false (Some place) = refl

without_cons : (name : List ℕ) (x : NamedCall) (xs : List NamedCall) → without_call name (x ∷ xs) ≡ cond (has_name name x) xs (x ∷ without_call name xs)
without_cons name x xs = ap (λ (o : Option ℕ). without_place o (x ∷ xs)) (position_cons (has_name name) x xs) ∙ by_test (has_name name x) (position (has_name name) xs)
  where
    by_test : (b : Bool) (place : Option ℕ) → without_place (cond b (Some 0) (option_map suc place)) (x ∷ xs) ≡ cond b xs (x ∷ without_place place xs)
    by_test true place = refl
    by_test false None = refl
    by_test false (Some place) = refl

-- ---- all of one name

abbrev pub all_named : List ℕ → List NamedCall → List NamedCall
all_named name calls = filter (has_name name) calls

pub first_named : (name : List ℕ) (calls : List NamedCall) (x : NamedCall) (xs : List NamedCall) → all_named name calls ≡ x ∷ xs → call_named name calls ≡ Some x.call
first_named name [] x xs is = absurd (cc is)
first_named name (y ∷ calls) x xs is = named_cons name y calls ∙ by_test (has_name name y) is (λ later. first_named name calls x xs later)
  where
    by_test : (b : Bool) → cond b (y ∷ all_named name calls) (all_named name calls) ≡ x ∷ xs → (all_named name calls ≡ x ∷ xs → call_named name calls ≡ Some x.call) → cond b (Some y.call) (call_named name calls) ≡ Some x.call
    by_test true here rest = let same : y ≡ x = cc here in ap (λ (c : NamedCall). Some c.call) same
    by_test false later rest = rest later

pub none_named : (name : List ℕ) (calls : List NamedCall) → all_named name calls ≡ [] → call_named name calls ≡ None
none_named name [] is = refl
none_named name (y ∷ calls) is = named_cons name y calls ∙ by_test (has_name name y) is (λ later. none_named name calls later)
  where
    by_test : (b : Bool) → cond b (y ∷ all_named name calls) (all_named name calls) ≡ [] → (all_named name calls ≡ [] → call_named name calls ≡ None) → cond b (Some y.call) (call_named name calls) ≡ None
    by_test true here rest = absurd (cc here)
    by_test false later rest = rest later

pub not_named : (name : List ℕ) (calls : List NamedCall) → is_some (call_named name calls) ≡ false → all_named name calls ≡ []
not_named name [] is = refl
not_named name (y ∷ calls) is = by_test (has_name name y) (ap is_some (sym (named_cons name y calls)) ∙ is) (λ none. not_named name calls none)
  where
    by_test : (b : Bool) → is_some (cond b (Some y.call) (call_named name calls)) ≡ false → (is_some (call_named name calls) ≡ false → all_named name calls ≡ []) → cond b (y ∷ all_named name calls) (all_named name calls) ≡ []
    by_test true some rest = absurd (true≢false some)
    by_test false none rest = rest none

-- ---- one more, and one less

same_name : (call : NamedCall) (one two : List ℕ) → has_name one call ≡ true → has_name two call ≡ bytes_eq one two
same_name call one two is = ap (λ (n : List ℕ). bytes_eq n two) ((bytes_eq-Decides call.name one).0 is)

pub one_more : (name other : List ℕ) (call : OpenCall) (calls : List NamedCall) → all_named name (with_call other call calls) ≡ all_named name calls ++ cond (bytes_eq other name) (record { name = other; call = call } ∷ []) []
one_more name other call calls = filter-append (has_name name) calls (record { name = other; call = call } ∷ [])

pub without_other : (name other : List ℕ) (calls : List NamedCall) → bytes_eq other name ≡ false → all_named name (without_call other calls) ≡ all_named name calls
without_other name other [] apart = refl
without_other name other (x ∷ calls) apart = ap (all_named name) (without_cons other x calls) ∙ by_test (has_name other x) refl (without_other name other calls apart)
  where
    by_test : (b : Bool) → has_name other x ≡ b → all_named name (without_call other calls) ≡ all_named name calls → all_named name (cond b calls (x ∷ without_call other calls)) ≡ cond (has_name name x) (x ∷ all_named name calls) (all_named name calls)
    by_test true is rest = sym (ap (λ (b : Bool). cond b (x ∷ all_named name calls) (all_named name calls)) (same_name x other name is ∙ apart))
    by_test false is rest = ap (λ (l : List NamedCall). cond (has_name name x) (x ∷ l) l) rest

pub without_own : (name : List ℕ) (calls : List NamedCall) (y : NamedCall) → all_named name calls ≡ y ∷ [] → all_named name (without_call name calls) ≡ []
without_own name [] y is = absurd (cc is)
without_own name (x ∷ calls) y is = ap (all_named name) (without_cons name x calls) ∙ by_test (has_name name x) refl is (λ one. without_own name calls y one)
  where
    by_test : (b : Bool) → has_name name x ≡ b → cond b (x ∷ all_named name calls) (all_named name calls) ≡ y ∷ [] → (all_named name calls ≡ y ∷ [] → all_named name (without_call name calls) ≡ []) → all_named name (cond b calls (x ∷ without_call name calls)) ≡ []
    by_test true is one rest = cc one
    by_test false is one rest = ap (λ (b : Bool). cond b (x ∷ all_named name (without_call name calls)) (all_named name (without_call name calls))) is ∙ rest one
