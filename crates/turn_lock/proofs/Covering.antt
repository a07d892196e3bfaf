-- As many numbers as there are, of which no two are the same, are all of them.
use Rattle.std.proofs.Common.{◌≡◌, ◌≢◌, ◌⊎◌, inl, inr, ℕ, zero, suc, ◌+◌, ◌<◌, ◌≤◌, List, [], ◌∷◌, length, map, sym, refl, ap, ◌∙◌, arith}
use mathlib.Core.Logic.{dite}
use mathlib.Core.Option.{some}
use native.Mathlib.Decide.{ℕ_discrete, dec_le}
use lib.ListN.{get_elem?}
use Rattle.turn_lock.specs.declared.view.Ended.{Ended}
use Rattle.turn_lock.specs.Chronicles.{AreUpTo}
use Rattle.turn_lock.specs.Passes.{AreByOneOf, ended_number, occurrences}
use Rattle.turn_lock.proofs.Counts.{times_hit, times_miss}

-- how often the numbers from 1 to this one stand in a list
abbrev total : ℕ → List ℕ → ℕ
total zero ns = 0
total (suc k) ns = occurrences (suc k) ns + total k ns

total_none : (k : ℕ) → total k [] ≡ 0
total_none zero = refl
total_none (suc k) = let a = total_none k in omega (arith, a)

above : (k x : ℕ) (ns : List ℕ) → k < x → total k (x ∷ ns) ≡ total k ns
above zero x ns less = refl
above (suc k) x ns less =
    let a = above k x ns (omega (arith, less)) in
    let b = times_miss (suc k) x ns (λ e. omega (arith, less, e)) in
    omega (arith, a, b)

within : (k x : ℕ) (ns : List ℕ) → 0 < x → x ≤ k → total k (x ∷ ns) ≡ suc (total k ns)
within zero x ns pos le = absurd (omega (arith, pos, le))
within (suc k) x ns pos le = dite (ℕ_discrete x (suc k))
    (λ e. let a = above k x ns (omega (arith, e)) in let b = times_hit (suc k) x ns e in omega (arith, a, b))
    (λ ne. let a = within k x ns pos (omega (arith, le, ne)) in let b = times_miss (suc k) x ns ne in omega (arith, a, b))

rest_none : (n x : ℕ) (ns : List ℕ) → occurrences n (x ∷ ns) ≡ 0 → (x ≢ n) × (occurrences n ns ≡ 0)
rest_none n x ns none = dite (ℕ_discrete x n)
    (λ e. let a = times_hit n x ns e in absurd (omega (arith, a, none)))
    (λ ne. let a = times_miss n x ns ne in (ne, omega (arith, a, none)))

up_to : (k x : ℕ) (ns : List ℕ) → ((n : ℕ) → k < n → occurrences n (x ∷ ns) ≡ 0) → Dec (x ≤ k) → x ≤ k
up_to k x ns none (yes le) = le
up_to k x ns none (no more) = absurd ((rest_none x x ns (none x (omega (arith, more)))).0 refl)

counted : (k : ℕ) (ns : List ℕ) → occurrences 0 ns ≡ 0 → ((n : ℕ) → k < n → occurrences n ns ≡ 0) → total k ns ≡ length ns
counted k [] zeros none = total_none k
counted k (x ∷ ns) zeros none =
    let z = rest_none 0 x ns zeros in
    let le = up_to k x ns none (dec_le x k) in
    let a = within k x ns (let ne = z.0 in omega (arith, ne)) le in
    let b = counted k ns z.1 (λ n more. (rest_none n x ns (none n more)).1) in
    omega (arith, a, b)

few : (k : ℕ) (ns : List ℕ) → ((n : ℕ) → 0 < n → occurrences n ns ≤ 1) → total k ns ≤ k
few zero ns once = omega arith
few (suc k) ns once = let a = few k ns once in let b = once (suc k) (omega arith) in omega (arith, a, b)

-- numbers up to k, of which no two are the same, are at most k
pub at_most : (k : ℕ) (ns : List ℕ) → ((n : ℕ) → 0 < n → occurrences n ns ≤ 1) → occurrences 0 ns ≡ 0 → ((n : ℕ) → k < n → occurrences n ns ≡ 0) → length ns ≤ k
at_most k ns once zeros none = let a = few k ns once in let b = counted k ns zeros none in omega (arith, a, b)

fewer : (k m : ℕ) (ns : List ℕ) → ((n : ℕ) → 0 < n → occurrences n ns ≤ 1) → 0 < m → m ≤ k → occurrences m ns ≡ 0 → total k ns + 1 ≤ k
fewer zero m ns once pos le none = absurd (omega (arith, pos, le))
fewer (suc k) m ns once pos le none = dite (ℕ_discrete m (suc k))
    (λ e. let a = few k ns once in let b : occurrences (suc k) ns ≡ 0 = ap (λ n. occurrences n ns) (sym e) ∙ none in omega (arith, a, b))
    (λ ne. let a = fewer k m ns once pos (omega (arith, le, ne)) none in let b = once (suc k) (omega arith) in omega (arith, a, b))

module _ (k : ℕ) (ns : List ℕ) (once : (n : ℕ) → 0 < n → occurrences n ns ≤ 1) (zeros : occurrences 0 ns ≡ 0) (none : (n : ℕ) → k < n → occurrences n ns ≡ 0) (many : length ns ≡ k) where
  stands_if : (m c : ℕ) → occurrences m ns ≡ c → 0 < m → m ≤ k → 1 ≤ occurrences m ns
  stands_if m zero is pos le =
      let a = fewer k m ns once pos le is in let b = counted k ns zeros none in absurd (omega (arith, a, b, many))
  stands_if m (suc c) is pos le = omega (arith, is)

  by_one_if : (m c : ℕ) → m ≡ c → m ≤ k → (m ≡ 0) ⊎ (1 ≤ occurrences m ns)
  by_one_if m zero is le = inl is
  by_one_if m (suc c) is le = inr (stands_if m (occurrences m ns) refl (omega (arith, is)) le)

  pub by_one : {E : Type 0} (author : E → ℕ) (es : List E) → AreUpTo author k es → AreByOneOf author ns es
  by_one author [] are = tt
  by_one author (e ∷ es) are = (by_one_if (author e) (author e) refl are.0, by_one author es are.1)

module _ {E : Type 0} where
  none_zero : (es : List (Ended E)) → ((i : ℕ) (e : Ended E) → get_elem? es i ≡ some e → 0 < e.number) → occurrences 0 (map ended_number es) ≡ 0
  none_zero [] some_are = refl
  none_zero (e ∷ es) some_are =
      let p = some_are 0 e refl in
      let a = times_miss 0 e.number (map ended_number es) (λ is. omega (arith, is, p)) in
      a ∙ none_zero es (λ i other at. some_are (suc i) other at)

  pub none_of_zero : (number : ℕ) (es : List (Ended E)) → 0 < number → ((i : ℕ) (e : Ended E) → get_elem? es i ≡ some e → 0 < e.number) → occurrences 0 (number ∷ map ended_number es) ≡ 0
  none_of_zero number es pos some_are = times_miss 0 number (map ended_number es) (λ is. omega (arith, is, pos)) ∙ none_zero es some_are
