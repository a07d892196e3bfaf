-- Halves and tenths of a number against the powers of two and of ten.
use Rattle.std.proofs.Common.{◌≡◌, ℕ, suc, ◌-◌, ◌/◌, ◌*◌, ◌^◌, nat_lt, ap, sym, ◌∙◌, arith}
use native.Mathlib.Nat.{div-div-eq-div-mul}
use native.Mathlib.Numerals.{unary_clauses}

power_more : (base before places : ℕ) → places ≡ suc before → base ^ places ≡ base * base ^ before
power_more base before places e = ap (λ power. base ^ power) e ∙ simp unary_clauses (grind arith)

halved_double : (number power : ℕ) → nat_lt (number / 2) power ≡ nat_lt number (2 * power)
halved_double number power = grind arith

-- a number is below a power of two just if its half is below the power before
pub halved : (number places : ℕ) → (places ≡ 0 → ⊥) → nat_lt (number / 2) (2 ^ (places - 1)) ≡ nat_lt number (2 ^ places)
halved number places some = halved_double number (2 ^ (places - 1)) ∙ ap (nat_lt number) (sym (power_more 2 (places - 1) places (omega arith)))

-- a number divided by a power of ten is its tenth divided by the power before
pub tenth : (number places : ℕ) → (places ≡ 0 → ⊥) → number / 10 / 10 ^ (places - 1) ≡ number / 10 ^ places
tenth number places some = div-div-eq-div-mul number 10 (10 ^ (places - 1)) ∙ ap (λ power. number / power) (sym (power_more 10 (places - 1) places (omega arith)))
