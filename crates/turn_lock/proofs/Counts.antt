-- How often numbers stand in lists and among views, and the entries of one author.
use Rattle.std.proofs.Common.{◌≡◌, ◌≢◌, ℕ, zero, suc, ◌+◌, ◌<◌, ◌≤◌, true, false, List, [], ◌∷◌, ◌++◌, length, leb, map, set, sym, refl, ap, ◌∙◌, ⊎_elim, arith, if◌then◌else◌, eq-eqb, ne_eqb}
use Rattle.std.proofs.lemmas.Bool.Decides.{leb_tells}
use mathlib.Core.Logic.{dite}
use mathlib.Core.Option.{some, some-injective, some-ne-none}
use native.Mathlib.Decide.{ℕ_discrete}
use lib.ListN.{get_elem?}
use Rattle.turn_lock.specs.declared.view.View.{View}
use Rattle.turn_lock.specs.declared.view.Ended.{Ended}
use Rattle.turn_lock.specs.Chronicles.{entries_by, AreBy, AreUpTo}
use Rattle.turn_lock.specs.Passes.{occurrences, numbers_of, ended_number}
use Rattle.turn_lock.specs.inner.Rule.{occurrences_in_views}

pub times_hit : (n x : ℕ) (xs : List ℕ) → x ≡ n → occurrences n (x ∷ xs) ≡ 1 + occurrences n xs
times_hit n x xs e = ap (λ b. (if b then 1 else 0) + occurrences n xs) (eq-eqb x n e)

pub times_miss : (n x : ℕ) (xs : List ℕ) → x ≢ n → occurrences n (x ∷ xs) ≡ occurrences n xs
times_miss n x xs ne = ap (λ b. (if b then 1 else 0) + occurrences n xs) (ne_eqb x n ne) ∙ omega arith

pub times_append : (n : ℕ) (xs ys : List ℕ) → occurrences n (xs ++ ys) ≡ occurrences n xs + occurrences n ys
times_append n [] ys = omega arith
times_append n (x ∷ xs) ys = let h = times_append n xs ys in dite (ℕ_discrete x n)
    (λ e. let a = times_hit n x (xs ++ ys) e in let b = times_hit n x xs e in omega arith)
    (λ ne. let a = times_miss n x (xs ++ ys) ne in let b = times_miss n x xs ne in omega arith)

pub times_none : (n : ℕ) → 0 < n → occurrences n (0 ∷ []) ≡ 0
times_none n pos = times_miss n 0 [] (λ e. omega arith)

module _ {E : Type 0} where
  pub times_ended : (es : List (Ended E)) (i : ℕ) (e : Ended E) → get_elem? es i ≡ some e → 1 ≤ occurrences e.number (map ended_number es)
  times_ended [] i e h = absurd (some-ne-none e (sym h))
  times_ended (x ∷ xs) zero e h = let t = times_hit e.number x.number (map ended_number xs) (ap (λ (z : Ended E). z.number) (some-injective x e h)) in omega arith
  times_ended (x ∷ xs) (suc i) e h = let k = times_ended xs i e h in dite (ℕ_discrete x.number e.number)
      (λ s. let a = times_hit e.number x.number (map ended_number xs) s in omega arith) (λ s. let a = times_miss e.number x.number (map ended_number xs) s in omega arith)

  pub census_set : (n : ℕ) (vs : List (View E)) (id : ℕ) (v w : View E) → get_elem? vs id ≡ some v → occurrences_in_views n (set vs id w) + occurrences n (numbers_of v) ≡ occurrences_in_views n vs + occurrences n (numbers_of w)
  census_set n [] id v w e = absurd (some-ne-none v (sym e))
  census_set n (x ∷ xs) zero v w e = let h : occurrences n (numbers_of x) ≡ occurrences n (numbers_of v) = ap (λ (z : View E). occurrences n (numbers_of z)) (some-injective x v e) in
      let a : ℕ = occurrences n (numbers_of x) in let b : ℕ = occurrences n (numbers_of v) in let c : ℕ = occurrences n (numbers_of w) in let d : ℕ = occurrences_in_views n xs in let h' : a ≡ b = h in let g : (c + d) + b ≡ (a + d) + c = omega arith in g
  census_set n (x ∷ xs) (suc id) v w e = let k = census_set n xs id v w e in
      let a : ℕ = occurrences n (numbers_of x) in let b : ℕ = occurrences n (numbers_of v) in let c : ℕ = occurrences n (numbers_of w) in let d : ℕ = occurrences_in_views n xs in let f : ℕ = occurrences_in_views n (set xs id w) in
      let k' : f + b ≡ d + c = k in let g : (a + f) + b ≡ (a + d) + c = omega arith in g

  pub census_snoc : (n : ℕ) (vs : List (View E)) (w : View E) → occurrences_in_views n (vs ++ w ∷ []) ≡ occurrences_in_views n vs + occurrences n (numbers_of w)
  census_snoc n [] w = let c : ℕ = occurrences n (numbers_of w) in let g : c + 0 ≡ 0 + c = omega arith in g
  census_snoc n (x ∷ xs) w = let k = census_snoc n xs w in let a : ℕ = occurrences n (numbers_of x) in let c : ℕ = occurrences n (numbers_of w) in let d : ℕ = occurrences_in_views n xs in let f : ℕ = occurrences_in_views n (xs ++ w ∷ []) in
      let k' : f ≡ d + c = k in let g : a + f ≡ (a + d) + c = omega arith in g

  pub census_at : (n : ℕ) (vs : List (View E)) (id : ℕ) (v : View E) → get_elem? vs id ≡ some v → occurrences n (numbers_of v) ≤ occurrences_in_views n vs
  census_at n [] id v e = absurd (some-ne-none v (sym e))
  census_at n (x ∷ xs) zero v e = let h : occurrences n (numbers_of x) ≡ occurrences n (numbers_of v) = ap (λ (z : View E). occurrences n (numbers_of z)) (some-injective x v e) in
      let a : ℕ = occurrences n (numbers_of x) in let b : ℕ = occurrences n (numbers_of v) in let d : ℕ = occurrences_in_views n xs in let h' : a ≡ b = h in let g : b ≤ a + d = omega arith in g
  census_at n (x ∷ xs) (suc id) v e = let k = census_at n xs id v e in let a : ℕ = occurrences n (numbers_of x) in let b : ℕ = occurrences n (numbers_of v) in let d : ℕ = occurrences_in_views n xs in let k' : b ≤ d = k in let g : b ≤ a + d = omega arith in g

  pub census_two : (n : ℕ) (vs : List (View E)) (j k : ℕ) (v w : View E) → j ≢ k → get_elem? vs j ≡ some v → get_elem? vs k ≡ some w → occurrences n (numbers_of v) + occurrences n (numbers_of w) ≤ occurrences_in_views n vs
  census_two n [] j k v w ne p q = absurd (some-ne-none v (sym p))
  census_two n (x ∷ xs) zero zero v w ne p q = absurd (ne refl)
  census_two n (x ∷ xs) zero (suc k) v w ne p q = let h : occurrences n (numbers_of x) ≡ occurrences n (numbers_of v) = ap (λ (z : View E). occurrences n (numbers_of z)) (some-injective x v p) in let m = census_at n xs k w q in
      let a : ℕ = occurrences n (numbers_of x) in let b : ℕ = occurrences n (numbers_of v) in let c : ℕ = occurrences n (numbers_of w) in let d : ℕ = occurrences_in_views n xs in let h' : a ≡ b = h in let m' : c ≤ d = m in let g : b + c ≤ a + d = omega arith in g
  census_two n (x ∷ xs) (suc j) zero v w ne p q = let h : occurrences n (numbers_of x) ≡ occurrences n (numbers_of w) = ap (λ (z : View E). occurrences n (numbers_of z)) (some-injective x w q) in let m = census_at n xs j v p in
      let a : ℕ = occurrences n (numbers_of x) in let b : ℕ = occurrences n (numbers_of v) in let c : ℕ = occurrences n (numbers_of w) in let d : ℕ = occurrences_in_views n xs in let h' : a ≡ c = h in let m' : b ≤ d = m in let g : b + c ≤ a + d = omega arith in g
  census_two n (x ∷ xs) (suc j) (suc k) v w ne p q = let h = census_two n xs j k v w (λ e. ne (ap suc e)) p q in
      let a : ℕ = occurrences n (numbers_of x) in let b : ℕ = occurrences n (numbers_of v) in let c : ℕ = occurrences n (numbers_of w) in let d : ℕ = occurrences_in_views n xs in let h' : b + c ≤ d = h in let g : b + c ≤ a + d = omega arith in g

module _ {E : Type 0} (author : E → ℕ) where
  pub by_hit : (n : ℕ) (e : E) (es : List E) → author e ≡ n → entries_by author n (e ∷ es) ≡ e ∷ entries_by author n es
  by_hit n e es is = ap (λ b. if b then e ∷ entries_by author n es else entries_by author n es) (eq-eqb (author e) n is)

  pub by_miss : (n : ℕ) (e : E) (es : List E) → author e ≢ n → entries_by author n (e ∷ es) ≡ entries_by author n es
  by_miss n e es ne = ap (λ b. if b then e ∷ entries_by author n es else entries_by author n es) (ne_eqb (author e) n ne)

  pub by_append : (n : ℕ) (xs ys : List E) → entries_by author n (xs ++ ys) ≡ entries_by author n xs ++ entries_by author n ys
  by_append n [] ys = refl
  by_append n (x ∷ xs) ys = dite (ℕ_discrete (author x) n)
      (λ e. by_hit n x (xs ++ ys) e ∙ (ap (λ z. x ∷ z) (by_append n xs ys) ∙ ap (λ z. z ++ entries_by author n ys) (sym (by_hit n x xs e))))
      (λ ne. by_miss n x (xs ++ ys) ne ∙ (by_append n xs ys ∙ ap (λ z. z ++ entries_by author n ys) (sym (by_miss n x xs ne))))

  -- entries by m or 0 are by no other
  pub by_others : (m n : ℕ) (es : List E) → n ≢ m → 0 < n → AreBy author m es → entries_by author n es ≡ []
  by_others m n [] ne pos all = refl
  by_others m n (e ∷ es) ne pos all = by_miss n e es (λ is. ⊎_elim (λ (h : author e ≡ m). ne (sym is ∙ h)) (λ (h : author e ≡ 0). omega arith) all.0) ∙ by_others m n es ne pos all.1

  none_hit : (e : E) (es : List E) (n : ℕ) → author e ≡ n → entries_by author n (e ∷ es) ≡ [] → ⊥
  none_hit e es n is none = let long = ap length (sym (by_hit n e es is) ∙ none) in absurd (omega (arith, long))

  none_behind : (e : E) (es : List E) (n : ℕ) → entries_by author n (e ∷ es) ≡ [] → entries_by author n es ≡ []
  none_behind e es n none = dite (ℕ_discrete (author e) n) (λ is. absurd (none_hit e es n is none)) (λ ne. sym (by_miss n e es ne) ∙ none)

  -- where no number above this one has an entry, each author is at most this one
  pub up_to : (most : ℕ) (es : List E) → ((n : ℕ) → most < n → entries_by author n es ≡ []) → AreUpTo author most es
  up_to most [] none = tt
  up_to most (e ∷ es) none = (
    ⊎_elim (λ (h : (leb (author e) most ≡ true) × (author e ≤ most)). h.1) (λ (h : (leb (author e) most ≡ false) × (most < author e)). absurd (none_hit e es (author e) refl (none (author e) h.1))) (leb_tells (author e) most),
    up_to most es (λ n above. none_behind e es n (none n above)),
  )
