-- The strings that stand for integers are those that are written of them.
use Rattle.std.proofs.Common.{◌≡◌, ℕ, suc, ◌<◌, ◌^◌, List, [], ◌∷◌, Bool, true, false, cond, ◌&&◌, ltb, eqb, length, refl, sym, ap, ◌∙◌, subst, IsTrue, ℤ, pos, negsuc, neg_ℤ, Option, Some, None, IfSome, IfNone, get_or, arith}
use Rattle.std.specs.Char.{digit_value}
use Rattle.std.specs.Fmt.{decimal, signed_decimal}
use Rattle.std.specs.Str.{bytes_eq}
use Rattle.std.specs.Str.Parse.{AllDigits, digits_value, signed_digits_value}
use Rattle.std.proofs.lemmas.Fmt.{decimal_is_IsNumeral}
use Rattle.std.proofs.lemmas.Bool.{and_parts, and_from, cond-true, ltb-true, ne_eqb}
use Rattle.std.proofs.lemmas.Slice.Eq.{bytes_eq-Decides}
use Rattle.base_kinds.specs.Values.{fits_signed}
use Rattle.plain_texts.specs.Numbers.{natural_of}
use Rattle.plain_texts.proofs.Decimals.{left_out, natural_read}
use Rattle.value_core.specs.Integers.{integer_if, integer_of}
use Rattle.value_core.specs.laws.Texts.{NaturalsByFunction, IntegersByFunction}

pub same_texts : (a b : List ℕ) → a ≡ b → bytes_eq a b ≡ true
same_texts a b = (bytes_eq-Decides a b).1

-- digits don't begin with another glyph
plain_head : (digits : List ℕ) (octet : ℕ) → (digit_value octet < 10 → ⊥) → 0 < length digits → AllDigits 10 digits → eqb (get_or digits 0 0) octet ≡ false
plain_head [] octet none some all = absurd (omega arith)
plain_head (x ∷ xs) octet none some all = ne_eqb x octet (λ e. none (subst (λ y. digit_value y < 10) e all.0))

pub no_minus : digit_value 45 < 10 → ⊥
no_minus h = omega (arith, h)

no_plus : digit_value 43 < 10 → ⊥
no_plus h = omega (arith, h)

positive_value : (n : ℕ) → n < 2 ^ 64 → signed_digits_value 10 (decimal n) ≡ pos n
positive_value n small =
    let numeral = decimal_is_IsNumeral n small in
    let minus = plain_head (decimal n) 45 no_minus numeral.0.0 numeral.0.1 in
    let plus = plain_head (decimal n) 43 no_plus numeral.0.0 numeral.0.1 in
    rw (minus, plus) (ap pos numeral.1)

negative_value : (n : ℕ) → suc n < 2 ^ 64 → signed_digits_value 10 (45 ∷ decimal (suc n)) ≡ negsuc n
negative_value n small = ap (λ m. neg_ℤ (pos m)) (decimal_is_IsNumeral (suc n) small).1

signed_value : (z : ℤ) → IsTrue (fits_signed 64 z) → signed_digits_value 10 (signed_decimal z) ≡ z
signed_value (pos n) held = let small = ltb-true n (2 ^ 63) held in positive_value n (omega arith)
signed_value (negsuc n) held = let small = ltb-true n (2 ^ 63) held in negative_value n (omega arith)

pub integer_read : (text : List ℕ) (number : ℤ) → text ≡ signed_decimal number → IsTrue (fits_signed 64 number) → integer_of text ≡ Some number
unfolding integer_of
integer_read text number is held =
    let value : signed_digits_value 10 text ≡ number = ap (signed_digits_value 10) is ∙ signed_value number held in
    ap (integer_if text) value ∙ cond-true (fits_signed 64 number && bytes_eq text (signed_decimal number)) (Some number) None (and_from (fits_signed 64 number) (bytes_eq text (signed_decimal number)) held (same_texts text (signed_decimal number) is))

pub integer_refused : (text : List ℕ) → ((number : ℤ) → IsTrue (fits_signed 64 number) → text ≡ signed_decimal number → ⊥) → integer_of text ≡ None
unfolding integer_of
integer_refused text none =
    let number = signed_digits_value 10 text in
    left_out (fits_signed 64 number && bytes_eq text (signed_decimal number)) number (λ both.
    let parts = and_parts (fits_signed 64 number) (bytes_eq text (signed_decimal number)) both in
    none number parts.0 ((bytes_eq-Decides text (signed_decimal number)).0 parts.1))

pub integer_is : (text : List ℕ) (read : Option ℤ) → IfSome read (λ number. text ≡ signed_decimal number) → IfSome read (λ number. IsTrue (fits_signed 64 number)) → IfNone read ((number : ℤ) → IsTrue (fits_signed 64 number) → text ≡ signed_decimal number → ⊥) → read ≡ integer_of text
integer_is text (Some number) is held none = sym (integer_read text number is held)
integer_is text None is held none = sym (integer_refused text none)

-- what a test let through
pub let_through : {A : Type 0} (test : Bool) (value found : A) → cond test (Some value) None ≡ Some found → (test ≡ true) × (value ≡ found)
let_through true value found is = (refl, cc)
let_through false value found is = absurd (cc)

pub naturals_by_function : NaturalsByFunction
unfolding natural_of
naturals_by_function text number = (there, λ parts. natural_read text number parts.0 parts.1)
  where
    there : natural_of text ≡ Some number → (text ≡ decimal number) × (number < 2 ^ 64)
    there is =
        let value = digits_value 10 text in
        let through = let_through (ltb value (2 ^ 64) && bytes_eq text (decimal value)) value number is in
        let parts = and_parts (ltb value (2 ^ 64)) (bytes_eq text (decimal value)) through.0 in
        subst (λ n. (text ≡ decimal n) × (n < 2 ^ 64)) through.1 ((bytes_eq-Decides text (decimal value)).0 parts.1, ltb-true value (2 ^ 64) parts.0)

pub integers_by_function : IntegersByFunction
unfolding integer_of
integers_by_function text number = (there, λ parts. integer_read text number parts.0 parts.1)
  where
    there : integer_of text ≡ Some number → (text ≡ signed_decimal number) × IsTrue (fits_signed 64 number)
    there is =
        let value = signed_digits_value 10 text in
        let through = let_through (fits_signed 64 value && bytes_eq text (signed_decimal value)) value number is in
        let parts = and_parts (fits_signed 64 value) (bytes_eq text (signed_decimal value)) through.0 in
        subst (λ n. (text ≡ signed_decimal n) × IsTrue (fits_signed 64 n)) through.1 ((bytes_eq-Decides text (signed_decimal value)).0 parts.1, parts.0)
