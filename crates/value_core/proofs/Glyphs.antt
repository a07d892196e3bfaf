-- The last digits of a number, written from the last one on, and the zeros at their end.
use Rattle.std.proofs.Common.{◌≡◌, ℕ, ◌+◌, ◌-◌, ◌/◌, ◌%◌, ◌^◌, ◌<◌, ◌≤◌, zero, suc, List, [], ◌∷◌, ◌++◌, eqb, length, take, drop, get_or, set, refl, sym, ap, ◌∙◌, arith}
use Rattle.std.proofs.Math.Nat.{div-div-eq-div-mul, pow-suc, pow-succ'}
use Rattle.std.proofs.lemmas.Bool.{cond-false, ne_eqb}
use Rattle.std.proofs.lemmas.List.{drop-set, take_more}
use Rattle.base_kinds.specs.Texts.{last_digits, before_digits, without_last_zeros}

pub undivided : (n : ℕ) → n / 10 ^ 0 ≡ n
undivided n = omega arith

-- a tenth, divided by a power of ten
pub tenth : (k n : ℕ) → n / 10 / 10 ^ k ≡ n / 10 ^ (suc k)
tenth k n = div-div-eq-div-mul n 10 (10 ^ k) ∙ ap (λ p. n / p) (sym (pow-succ' 10 k))

-- what is left of a number by a power of ten, divided once more
pub tenth_after : (k n : ℕ) → n / 10 ^ k / 10 ≡ n / 10 ^ (suc k)
tenth_after k n = div-div-eq-div-mul n (10 ^ k) 10 ∙ ap (λ p. n / p) (sym (pow-suc 10 k))

pub length-last_digits : (places number : ℕ) → length (last_digits places number) ≡ places
length-last_digits zero number = refl
length-last_digits (suc places) number = pushed (last_digits places (number / 10)) (48 + number % 10) ∙ ap suc (length-last_digits places (number / 10))
  where
    pushed : (xs : List ℕ) (x : ℕ) → length (xs ++ x ∷ []) ≡ suc (length xs)
    pushed [] x = refl
    pushed (y ∷ ys) x = ap suc (pushed ys x)

-- the first of the last digits
pub last_front : (k n : ℕ) → last_digits (suc k) n ≡ (48 + n / 10 ^ k % 10) ∷ last_digits k n
last_front zero n = ap (λ q. (48 + q % 10) ∷ []) (sym (undivided n))
last_front (suc k) n =
    ap (λ r. r ++ (48 + n % 10) ∷ []) (last_front k (n / 10))
    ∙ ap (λ q. (48 + q % 10) ∷ last_digits (suc k) n) (tenth k n)

-- digits of which those from a place on are written, and what stands before them
pub record IsWrittenFrom (at : ℕ) (digits : List ℕ) (number whole : ℕ) : Type 0 where
  pub within : at ≤ length digits
  pub last : drop at digits ≡ last_digits (length digits - at) number
  pub front : whole ≡ number / 10 ^ (length digits - at)

pub written_none : (digits : List ℕ) (number at : ℕ) → at ≡ length digits → IsWrittenFrom at digits number number
written_none digits number at is = record {
  within = omega arith;
  last = ap (λ k. drop k digits) is ∙ dropped digits ∙ sym (ap (λ k. last_digits k number) nothing);
  front = sym (undivided number) ∙ sym (ap (λ k. number / 10 ^ k) nothing);
}
  where
    nothing : length digits - at ≡ 0
    nothing = omega arith

    dropped : (xs : List ℕ) → drop (length xs) xs ≡ []
    dropped [] = refl
    dropped (x ∷ xs) = dropped xs

pub written_more : (at after : ℕ) (digits next : List ℕ) (number whole glyph rest : ℕ) → after + 1 ≡ at → IsWrittenFrom at digits number whole → glyph ≡ 48 + whole % 10 → next ≡ set digits after glyph → length next ≡ length digits → rest ≡ whole / 10 → IsWrittenFrom after next number rest
written_more at after digits next number whole glyph rest before written is new same left =
    let inside : after < length digits = omega (arith, written.within) in
    let count : length next - after ≡ suc (length digits - at) = omega (arith, written.within) in
    let glyphs : glyph ≡ 48 + number / 10 ^ (length digits - at) % 10 = is ∙ ap (λ w. 48 + w % 10) written.front in
    record {
      within = omega arith;
      last =
          ap (drop after) new ∙ drop-set digits after glyph inside
          ∙ ap (λ k. glyph ∷ drop k digits) before
          ∙ ap (λ r. glyph ∷ r) written.last
          ∙ ap (λ g. g ∷ last_digits (length digits - at) number) glyphs
          ∙ sym (last_front (length digits - at) number)
          ∙ sym (ap (λ k. last_digits k number) count);
      front =
          left ∙ ap (λ w. w / 10) written.front
          ∙ tenth_after (length digits - at) number
          ∙ sym (ap (λ k. number / 10 ^ k) count);
    }

pub written_all : (digits : List ℕ) (number whole at : ℕ) → at ≡ 0 → IsWrittenFrom at digits number whole → (whole ≡ number / 10 ^ length digits) × (digits ≡ last_digits (length digits) number)
written_all digits number whole at none written =
    let count : length digits - at ≡ length digits = omega arith in (
      written.front ∙ ap (λ k. number / 10 ^ k) count,
      sym (ap (λ k. drop k digits) none) ∙ written.last ∙ ap (λ k. last_digits k number) count,
    )

-- a zero at the end is left out, and another digit stays
last_zero : (digits : List ℕ) → without_last_zeros (digits ++ 48 ∷ []) ≡ without_last_zeros digits
last_zero [] = refl
last_zero (d ∷ ds) = ap (before_digits d) (last_zero ds)

before_some : (digit : ℕ) (digits : List ℕ) (last : ℕ) → before_digits digit (digits ++ last ∷ []) ≡ digit ∷ (digits ++ last ∷ [])
before_some digit [] last = refl
before_some digit (d ∷ ds) last = refl

last_kept : (digits : List ℕ) (last : ℕ) → (last ≡ 48 → ⊥) → without_last_zeros (digits ++ last ∷ []) ≡ digits ++ last ∷ []
last_kept [] last other = cond-false (eqb last 48) [] (last ∷ []) (ne_eqb last 48 other)
last_kept (d ∷ ds) last other = ap (before_digits d) (last_kept ds last other) ∙ before_some d ds last

cut_last : (digits : List ℕ) (n : ℕ) → 0 < n → n ≤ length digits → take n digits ≡ take (n - 1) digits ++ get_or digits (n - 1) 0 ∷ []
cut_last digits n some within =
    let e : n ≡ n - 1 + 1 = omega arith in
    let inside : n - 1 < length digits = omega arith in
    ap (λ k. take k digits) e ∙ take_more digits (n - 1) 0 inside

pub zero_dropped : (digits : List ℕ) (n : ℕ) → 0 < n → n ≤ length digits → get_or digits (n - 1) 0 ≡ 48 → without_last_zeros digits ≡ without_last_zeros (take n digits) → without_last_zeros digits ≡ without_last_zeros (take (n - 1) digits)
zero_dropped digits n some within is so_far =
    so_far ∙ ap without_last_zeros (cut_last digits n some within ∙ ap (λ x. take (n - 1) digits ++ x ∷ []) is) ∙ last_zero (take (n - 1) digits)

pub other_kept : (digits : List ℕ) (n : ℕ) → 0 < n → n ≤ length digits → (get_or digits (n - 1) 0 ≡ 48 → ⊥) → without_last_zeros digits ≡ without_last_zeros (take n digits) → without_last_zeros digits ≡ take n digits
other_kept digits n some within other so_far =
    let cut = cut_last digits n some within in
    so_far ∙ ap without_last_zeros cut ∙ last_kept (take (n - 1) digits) (get_or digits (n - 1) 0) other ∙ sym cut

pub none_kept : (digits : List ℕ) (n : ℕ) → n ≡ 0 → without_last_zeros digits ≡ without_last_zeros (take n digits) → without_last_zeros digits ≡ take n digits
none_kept digits n none so_far = so_far ∙ ap (λ k. without_last_zeros (take k digits)) none ∙ sym (ap (λ k. take k digits) none)

pub all_there : (digits : List ℕ) (n : ℕ) → n ≡ length digits → without_last_zeros digits ≡ without_last_zeros (take n digits)
all_there digits n is = ap without_last_zeros (sym (whole digits) ∙ sym (ap (λ k. take k digits) is))
  where
    whole : (xs : List ℕ) → take (length xs) xs ≡ xs
    whole [] = refl
    whole (x ∷ xs) = ap (λ r. x ∷ r) (whole xs)
