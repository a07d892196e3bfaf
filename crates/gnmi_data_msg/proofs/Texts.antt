-- The test of UTF-8 and the fact.
use Rattle.std.proofs.Common.{◌≡◌, ℕ, List, Bool, true, false, refl}
use Rattle.std.specs.Str.{IsUtf8, is_utf8}
use Rattle.std.proofs.lemmas.Str.{IsUtf8-from_is_utf8, is_utf8-from_IsUtf8}

pub taken : (octets : List ℕ) → IsUtf8 octets → is_utf8 octets ≡ true
taken octets is = is_utf8-from_IsUtf8 octets is

not_true : (b : Bool) → (b ≡ true → ⊥) → b ≡ false
not_true true h = absurd (h refl)
not_true false h = refl

pub refused : (octets : List ℕ) → (IsUtf8 octets → ⊥) → is_utf8 octets ≡ false
refused octets h = not_true (is_utf8 octets) (λ e. h (IsUtf8-from_is_utf8 octets e))

pub ruleset utf8_tests = (taken, refused)
