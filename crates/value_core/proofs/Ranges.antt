-- Numbers of 64 bits.
use Rattle.std.proofs.Common.{◌≡◌, ℕ, ◌^◌, ◌<◌, ◌≤◌, zero, suc, Bool, true, false, nat_lt, leb, ℤ, pos, negsuc, sym, ◌∙◌, arith, IsTrue}
use Rattle.std.specs.Int.Signed.{mag}
use Rattle.std.proofs.Math.Nat.{pow-le-pow_right}
use Rattle.std.proofs.lemmas.Bool.{ltb-true, lt-ltb, le-leb}
use Rattle.base_kinds.specs.Values.{fits_signed}
use Rattle.value_core.specs.Decimals.{signed}

-- 64 places hold every number of 64 bits
pub wide : (number places : ℕ) → number < 2 ^ 64 → 64 ≤ places → leb 64 places ≡ nat_lt number (2 ^ places)
wide number places small far =
    let more : 2 ^ 64 ≤ 2 ^ places = pow-le-pow_right {n = 2} (omega arith) far in
    le-leb 64 places far ∙ sym (lt-ltb number (2 ^ places) (reach number (2 ^ 64) (2 ^ places) small more))
  where
    reach : (a b c : ℕ) → a < b → b ≤ c → a < c
    reach a b c h k = omega arith

pub magnitude : (z : ℤ) → IsTrue (fits_signed 64 z) → mag z < 2 ^ 63
magnitude (pos n) held = ltb-true n (2 ^ 63) held
magnitude (negsuc n) held = ltb-true n (2 ^ 63) held

pub held_small : (negative : Bool) (number : ℕ) → IsTrue (fits_signed 64 (signed negative number)) → number < 2 ^ 64
held_small false number held = let h = ltb-true number (2 ^ 63) held in omega arith
held_small true zero held = omega arith
held_small true (suc number) held = let h = ltb-true number (2 ^ 63) held in omega arith
