-- Zeros behind a number.
use Rattle.std.proofs.Common.{◌≡◌, ℕ, zero, suc, ◌+◌, ◌-◌, ◌*◌, ◌^◌, ◌<◌, ◌≤◌, replicate, refl, sym, ap, ◌∙◌, arith, inl, inr}
use Rattle.std.proofs.Math.Nat.{mul_assoc, pow-succ', le-mul_of_pos_right}
use Rattle.std.proofs.lemmas.Bool.{cases_lt}
use Rattle.std.specs.Char.{digit_value}
use Rattle.std.specs.Str.Parse.{digits_value_after}

ten_times : (power more : ℕ) → more ≡ 10 * power → 0 < power → 0 < more
ten_times power more is some = omega (arith, is)

some_power : (zeros : ℕ) → 0 < 10 ^ zeros
some_power zero = omega arith
some_power (suc zeros) = ten_times (10 ^ zeros) (10 ^ (suc zeros)) (pow-succ' 10 zeros) (some_power zeros)

one_more : (number zeros : ℕ) → (number * 10) * 10 ^ zeros ≡ number * 10 ^ (suc zeros)
one_more number zeros = mul_assoc number 10 (10 ^ zeros) ∙ ap (λ p. number * p) (sym (pow-succ' 10 zeros))

-- of the zeros behind a number so many are added
pub zeros_more : (start longer next zeros added : ℕ) → added < zeros → next ≡ longer * 10 → longer * 10 ^ (zeros - added) ≡ start * 10 ^ zeros → next * 10 ^ (zeros - (added + 1)) ≡ start * 10 ^ zeros
zeros_more start longer next zeros added below is h =
    let left : zeros - added ≡ suc (zeros - (added + 1)) = omega arith in
    ap (λ n. n * 10 ^ (zeros - (added + 1))) is ∙ one_more longer (zeros - (added + 1)) ∙ sym (ap (λ k. longer * 10 ^ k) left) ∙ h

reach : (a b c : ℕ) → a ≤ b → b ≤ c → a ≤ c
reach a b c h k = omega arith

-- with one more it is too large, and so it is with all
pub zeros_large : (start longer zeros added : ℕ) → added < zeros → longer * 10 ^ (zeros - added) ≡ start * 10 ^ zeros → 2 ^ 64 ≤ longer * 10 → 2 ^ 64 ≤ start * 10 ^ zeros
zeros_large start longer zeros added below h large =
    let whole = zeros_more start longer (longer * 10) zeros added below refl h in
    reach (2 ^ 64) (longer * 10) (start * 10 ^ zeros) large (rw (← whole) (le-mul_of_pos_right {m = 10 ^ (zeros - (added + 1))} (longer * 10) (some_power (zeros - (added + 1)))))

pub unless_held : (number : ℕ) → (number < 2 ^ 64 → ⊥) → 2 ^ 64 ≤ number
unless_held number none = elim (cases_lt number (2 ^ 64)) [
  | inl held ↦ absurd (none held)
  | inr large ↦ large
]

-- the digits of so many zeros behind it make the same number
pub zeros_value : (number zeros : ℕ) → digits_value_after 10 number (replicate zeros 48) ≡ number * 10 ^ zeros
zeros_value number zero = omega arith
zeros_value number (suc zeros) =
    let plain : number * 10 + digit_value 48 ≡ number * 10 = omega arith in
    zeros_value (number * 10 + digit_value 48) zeros ∙ ap (λ n. n * 10 ^ zeros) plain ∙ one_more number zeros
