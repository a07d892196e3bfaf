-- Numbers in decimal, with a sign and without: which number a text is.
use Rattle.std.proofs.Common.{◌≡◌, ℕ, ◌<◌, ◌^◌, zero, suc, List, [], ◌∷◌, true, false, ltb, sym, ap, subst, refl, ◌∙◌, ℤ, pos, negsuc, IsTrue, arith}
use Rattle.std.specs.Fmt.{decimal, signed_decimal}
use Rattle.std.specs.Str.Parse.{AllDigits}
use Rattle.std.proofs.lemmas.Fmt.{decimal_is_IsNumeral, decimal_injective, signed_decimal_injective}
use Rattle.std.proofs.lemmas.Bool.{ltb-true, both_ways}
use Rattle.base_kinds.specs.Values.{fits_signed}
use Rattle.value_core.specs.Decimals.{signed}
use Rattle.value_core.proofs.Ranges.{magnitude}

pub decimal_digits : (n : ℕ) → n < 2 ^ 64 → AllDigits 10 (decimal n)
decimal_digits n small = (decimal_is_IsNumeral n small).0.1

pub no_minus : (n : ℕ) → n < 2 ^ 64 → (octets rest : List ℕ) → octets ≡ decimal n → octets ≡ 45 ∷ rest → ⊥
no_minus n small octets rest e f =
    let digits = subst (AllDigits 10) (sym e ∙ f) (decimal_digits n small) in
    let first = digits.0 in
    absurd (omega (arith, first))

wider : (n : ℕ) → n < 2 ^ 63 → (n < 2 ^ 64) × (suc n < 2 ^ 64)
wider n h = (omega arith, omega arith)

-- no `-`, and no number
pub no_positive : (octets : List ℕ) → ((rest : List ℕ) → octets ≡ 45 ∷ rest → ⊥) → ((n : ℕ) → n < 2 ^ 64 → octets ≡ decimal n → ⊥) → (z : ℤ) → IsTrue (fits_signed 64 z) → octets ≡ signed_decimal z → ⊥
no_positive octets signless none (pos n) held e = none n (wider n (ltb-true n (2 ^ 63) held)).0 e
no_positive octets signless none (negsuc n) held e = signless (decimal (suc n)) e

-- no `-`, and a number that 63 bits don't hold
pub large_positive : (octets : List ℕ) (number : ℕ) → ((rest : List ℕ) → octets ≡ 45 ∷ rest → ⊥) → octets ≡ decimal number → number < 2 ^ 64 → (IsTrue (fits_signed 64 (signed false number)) → ⊥) → (z : ℤ) → IsTrue (fits_signed 64 z) → octets ≡ signed_decimal z → ⊥
large_positive octets number signless is small none (pos n) held e =
    let same = decimal_injective n number (wider n (ltb-true n (2 ^ 63) held)).0 small (sym e ∙ is) in
    none (subst (λ m. IsTrue (fits_signed 64 (pos m))) same held)
large_positive octets number signless is small none (negsuc n) held e = signless (decimal (suc n)) e

-- a `-`, and no number behind it
pub no_negative : (octets digits : List ℕ) → octets ≡ 45 ∷ digits → ((n : ℕ) → n < 2 ^ 64 → digits ≡ decimal n → ⊥) → (z : ℤ) → IsTrue (fits_signed 64 z) → octets ≡ signed_decimal z → ⊥
no_negative octets digits minus none (pos n) held e = no_minus n (wider n (ltb-true n (2 ^ 63) held)).0 octets digits e minus
no_negative octets digits minus none (negsuc n) held e =
    let same : digits ≡ decimal (suc n) = ap (λ r. after r) (sym minus ∙ e) in
    none (suc n) (wider n (ltb-true n (2 ^ 63) held)).1 same
  where
    after : List ℕ → List ℕ
    after [] = []
    after (x ∷ xs) = xs

-- a `-` before a zero
pub negative_zero : (octets digits : List ℕ) (number : ℕ) → octets ≡ 45 ∷ digits → digits ≡ decimal number → number ≡ 0 → (z : ℤ) → IsTrue (fits_signed 64 z) → octets ≡ signed_decimal z → ⊥
negative_zero octets digits number minus is zeroed z held e =
    no_negative octets digits minus (λ n small f. other z n small f held e) z held e
  where
    other : (z : ℤ) (n : ℕ) → n < 2 ^ 64 → digits ≡ decimal n → IsTrue (fits_signed 64 z) → octets ≡ signed_decimal z → ⊥
    other (pos m) n small f held e = no_minus m (wider m (ltb-true m (2 ^ 63) held)).0 octets digits e minus
    other (negsuc m) n small f held e =
        let tails : 45 ∷ decimal (suc m) ≡ 45 ∷ decimal number = sym e ∙ minus ∙ ap (λ r. 45 ∷ r) is in
        let same : decimal (suc m) ≡ decimal number = cc in
        let equal = decimal_injective (suc m) number (wider m (ltb-true m (2 ^ 63) held)).1 (omega (arith, zeroed)) same in
        omega (arith, equal, zeroed)

-- a `-`, and a number that 64 bits don't hold with it
pub large_negative : (octets digits : List ℕ) (number : ℕ) → octets ≡ 45 ∷ digits → digits ≡ decimal number → number < 2 ^ 64 → (IsTrue (fits_signed 64 (signed true number)) → ⊥) → (z : ℤ) → IsTrue (fits_signed 64 z) → octets ≡ signed_decimal z → ⊥
large_negative octets digits number minus is small none (pos n) held e = no_minus n (wider n (ltb-true n (2 ^ 63) held)).0 octets digits e minus
large_negative octets digits number minus is small none (negsuc n) held e =
    let tails : 45 ∷ decimal (suc n) ≡ 45 ∷ decimal number = sym e ∙ minus ∙ ap (λ r. 45 ∷ r) is in
    let equal : decimal (suc n) ≡ decimal number = cc in
    let same = decimal_injective (suc n) number (wider n (ltb-true n (2 ^ 63) held)).1 small equal in
    none (subst (λ m. IsTrue (fits_signed 64 (signed true m))) same held)

pub positive_text : (octets : List ℕ) (number : ℕ) (value : ℤ) → octets ≡ decimal number → value ≡ signed false number → octets ≡ signed_decimal value
positive_text octets number value is same = is ∙ sym (ap signed_decimal same)

pub negative_text : (octets digits : List ℕ) (number : ℕ) (value : ℤ) → octets ≡ 45 ∷ digits → digits ≡ decimal number → (number ≡ 0 → ⊥) → value ≡ signed true number → octets ≡ signed_decimal value
negative_text octets digits zero value minus is some same = absurd (some refl)
negative_text octets digits (suc n) value minus is some same = minus ∙ ap (λ r. 45 ∷ r) is ∙ sym (ap signed_decimal same)

-- the number that was read is too wide, and the octets are no other
pub wide_natural : (octets : List ℕ) (read width : ℕ) → octets ≡ decimal read → read < 2 ^ 64 → ltb read (2 ^ width) ≡ false → (number : ℕ) → number < 2 ^ 64 → IsTrue (ltb number (2 ^ width)) → octets ≡ decimal number → ⊥
wide_natural octets read width is small wide number small' fits written =
    let same = decimal_injective number read small' small (sym written ∙ is) in
    both_ways (ltb read (2 ^ width)) wide (subst (λ m. IsTrue (ltb m (2 ^ width))) same fits)

pub wide_integer : (octets : List ℕ) (read : ℤ) (width : ℕ) → octets ≡ signed_decimal read → IsTrue (fits_signed 64 read) → fits_signed width read ≡ false → (number : ℤ) → IsTrue (fits_signed 64 number) → IsTrue (fits_signed width number) → octets ≡ signed_decimal number → ⊥
wide_integer octets read width is held wide number held' fits written =
    let same = signed_decimal_injective number read (magnitude number held') (magnitude read held) (sym written ∙ is) in
    both_ways (fits_signed width read) wide (subst (λ z. IsTrue (fits_signed width z)) same fits)
