-- Numbers that 64 bits don't hold with a sign.
use Rattle.std.proofs.Common.{◌≡◌, ℕ, ◌^◌, ◌<◌, ◌≤◌, Bool, true, false, cond, ℤ, Option, Some, None, refl, arith}
use Rattle.base_kinds.specs.Values.{fits_signed}
use Rattle.value_core.specs.Decimals.{signed, with_sign}
use Rattle.value_core.proofs.Ranges.{held_small}

crossed : (n : ℕ) → 2 ^ 64 ≤ n → n < 2 ^ 64 → ⊥
crossed n h k = omega arith

unless_held : (test : Bool) (z : ℤ) → (test ≡ true → ⊥) → cond test (Some z) None ≡ None
unless_held true z h = absurd (h refl)
unless_held false z h = refl

-- 64 bits don't hold it, with either sign
pub not_held : (negative : Bool) (number : ℕ) → 2 ^ 64 ≤ number → with_sign negative number ≡ None
not_held negative number large = unless_held (fits_signed 64 (signed negative number)) (signed negative number) (λ fits. crossed number large (held_small negative number fits))
