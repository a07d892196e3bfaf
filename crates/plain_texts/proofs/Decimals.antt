-- What the digits of a number begin with, what `parse` reads of them, and that this is what they stand for.
use Rattle.std.proofs.Common.{Bool, Some, None, cond, ltb, bytes_eq, ◌≡◌, ℕ, ◌<◌, ◌^◌, List, [], ◌∷◌, ◌⊎◌, true, false, not, ◌&&◌, ◌||◌, eqb, leb, length, get_or, inl, inr, refl, ⊎_elim, sym, ap, ◌∙◌, Result, Ok, Err, Option, IfSome, IfNone, arith}
use Rattle.std.specs.Fmt.{decimal}
use Rattle.std.specs.List.{list_all}
use Rattle.std.specs.Char.{is_ascii_digit}
use Rattle.std.specs.Result.{result_ok}
use Rattle.std.specs.Str.Parse.{ParsesUnsigned, AllDigits, digits_value}
use Rattle.std.proofs.lemmas.Fmt.{decimal_is_IsNumeral, decimal_digit, first_decimal, decimal_nonempty, parse-decimal, decimal-digits_value, digits_decimal}
use Rattle.std.proofs.lemmas.Str.Parse.{IsNumeralModel, numerals_by_value, tells_digits, parse_plain}
use Rattle.std.proofs.lemmas.Bool.{cond-true, lt-ltb, ltb-true, and_parts, and_from, or_cases, or_left, or_right, not-true, not_from_false, eqb-true, eqb-false, ne_eqb, eq-eqb, cases_order, both_ways, le-leb}
use Rattle.std.proofs.lemmas.Slice.Eq.{bytes_eq-Decides}
use Rattle.plain_texts.specs.Numbers.{natural_if, natural_of}
use Rattle.plain_texts.specs.inner.Digits.{begins_plainly}

digits : (octets : List ℕ) → AllDigits 10 octets → list_all is_ascii_digit octets ≡ true
digits [] all = refl
digits (octet ∷ octets) all =
    let parts = tells_digits.parts octet octets all in
    and_from (is_ascii_digit octet) (list_all is_ascii_digit octets) (and_from (leb 48 octet) (leb octet 57) (le-leb 48 octet parts.0.0) (le-leb octet 57 parts.0.1)) (digits octets parts.1)

own : IsNumeralModel (AllDigits 10) (digits_value 10)
own = numerals_by_value (AllDigits 10) tells_digits

pub all_digits : (n : ℕ) → n < 2 ^ 64 → list_all is_ascii_digit (decimal n) ≡ true
all_digits n small = digits (decimal n) (digits_decimal own n small)

first_digit : (n : ℕ) → n < 2 ^ 64 → ((get_or (decimal n) 0 0 ≡ 48) × (length (decimal n) ≡ 1)) ⊎ (48 < get_or (decimal n) 0 0)
first_digit n small =
    ⊎_elim
    (λ none. let e : decimal n ≡ 48 ∷ [] = rw none (decimal_digit 0 (omega arith)) in inl (ap (λ r. get_or r 0 0) e, ap length e))
    (λ apart. inr (first_decimal n (⊎_elim (λ l. absurd (omega arith)) (λ l. l) apart) small))
    (cases_order n 0)

plain_from : (n : ℕ) → n < 2 ^ 64 → begins_plainly (decimal n) ≡ true
plain_from n small =
    let some = decimal_nonempty n small in
    let d = decimal n in
    let begun : not (eqb (length d) 0) ≡ true = not_from_false (eqb (length d) 0) (ne_eqb (length d) 0 (λ e. absurd (omega arith))) in
    ⊎_elim
    (λ zero. and_from (not (eqb (length d) 0) && not (eqb (get_or d 0 0) 43)) (not (eqb (get_or d 0 0) 48) || eqb (length d) 1)
    (and_from (not (eqb (length d) 0)) (not (eqb (get_or d 0 0) 43)) begun (not_from_false (eqb (get_or d 0 0) 43) (ne_eqb (get_or d 0 0) 43 (λ e. absurd (omega arith)))))
    (or_right (not (eqb (get_or d 0 0) 48)) (eqb (length d) 1) (eq-eqb (length d) 1 zero.1)))
    (λ above. and_from (not (eqb (length d) 0) && not (eqb (get_or d 0 0) 43)) (not (eqb (get_or d 0 0) 48) || eqb (length d) 1)
    (and_from (not (eqb (length d) 0)) (not (eqb (get_or d 0 0) 43)) begun (not_from_false (eqb (get_or d 0 0) 43) (ne_eqb (get_or d 0 0) 43 (λ e. absurd (omega arith)))))
    (or_left (not (eqb (get_or d 0 0) 48)) (eqb (length d) 1) (not_from_false (eqb (get_or d 0 0) 48) (ne_eqb (get_or d 0 0) 48 (λ e. absurd (omega arith))))))
    (first_digit n small)

pub no_decimal : (octets : List ℕ) → begins_plainly octets ≡ false → (n : ℕ) → n < 2 ^ 64 → octets ≡ decimal n → ⊥
no_decimal octets spare n small e = both_ways (begins_plainly octets) spare (rw e (plain_from n small))

no_sign : (octets : List ℕ) → begins_plainly octets ≡ true → get_or octets 0 0 ≡ 43 → ⊥
no_sign octets plain =
    let parts = and_parts (not (eqb (length octets) 0) && not (eqb (get_or octets 0 0) 43)) (not (eqb (get_or octets 0 0) 48) || eqb (length octets) 1) plain in
    eqb-false (get_or octets 0 0) 43 (not-true (eqb (get_or octets 0 0) 43) (and_parts (not (eqb (length octets) 0)) (not (eqb (get_or octets 0 0) 43)) parts.0).1)

one_zero : (octets : List ℕ) → begins_plainly octets ≡ true → get_or octets 0 0 ≡ 48 → length octets ≡ 1
one_zero octets plain zero =
    let parts = and_parts (not (eqb (length octets) 0) && not (eqb (get_or octets 0 0) 43)) (not (eqb (get_or octets 0 0) 48) || eqb (length octets) 1) plain in
    ⊎_elim (λ other. absurd (eqb-false (get_or octets 0 0) 48 (not-true (eqb (get_or octets 0 0) 48) other) zero)) (λ one. eqb-true (length octets) 1 one) (or_cases (not (eqb (get_or octets 0 0) 48)) (eqb (length octets) 1) parts.1)

read : {E : Type 0} (octets : List ℕ) (r : Result ℕ E) → begins_plainly octets ≡ true → ParsesUnsigned 64 10 octets r → (IfSome (result_ok r) (λ n. octets ≡ decimal n)) × (IfNone (result_ok r) ((n : ℕ) → n < 2 ^ 64 → octets ≡ decimal n → ⊥))
read {E} octets (Ok n) plain parsed =
    let is = parse_plain own {E = E} 64 octets (Ok n) parsed (no_sign octets plain) in
    let written : decimal (digits_value 10 octets) ≡ octets = decimal-digits_value own octets is.0.0 is.0.1 (one_zero octets plain) is.0.2 in
    (sym written ∙ ap decimal (sym is.1), tt)
read {E} octets (Err e) plain parsed = (tt, λ n small written. let no : Err e ≡ Ok n = parse-decimal 64 n octets (Err e) small small written parsed in absurd (cc))

pub read_some : {E : Type 0} (octets : List ℕ) (r : Result ℕ E) (o : Option ℕ) → begins_plainly octets ≡ true → ParsesUnsigned 64 10 octets r → o ≡ result_ok r → IfSome o (λ n. octets ≡ decimal n)
read_some octets r o plain parsed is = rw is (read octets r plain parsed).0

pub read_none : {E : Type 0} (octets : List ℕ) (r : Result ℕ E) (o : Option ℕ) → begins_plainly octets ≡ true → ParsesUnsigned 64 10 octets r → o ≡ result_ok r → IfNone o ((n : ℕ) → n < 2 ^ 64 → octets ≡ decimal n → ⊥)
read_none octets r o plain parsed is = rw is (read octets r plain parsed).1

-- ---- the number that a text is

-- a value whose test can't hold is left out
pub left_out : {A : Type 0} (test : Bool) (value : A) → (test ≡ true → ⊥) → cond test (Some value) None ≡ None
left_out true value never = absurd (never refl)
left_out false value never = refl

pub natural_read : (text : List ℕ) (number : ℕ) → text ≡ decimal number → number < 2 ^ 64 → natural_of text ≡ Some number
unfolding natural_of
natural_read text number is small =
    let value : digits_value 10 text ≡ number = ap (digits_value 10) is ∙ (decimal_is_IsNumeral number small).1 in
    ap (natural_if text) value ∙ cond-true (ltb number (2 ^ 64) && bytes_eq text (decimal number)) (Some number) None (and_from (ltb number (2 ^ 64)) (bytes_eq text (decimal number)) (lt-ltb number (2 ^ 64) small) ((bytes_eq-Decides text (decimal number)).1 is))

pub natural_refused : (text : List ℕ) → ((number : ℕ) → number < 2 ^ 64 → text ≡ decimal number → ⊥) → natural_of text ≡ None
unfolding natural_of
natural_refused text none =
    let number = digits_value 10 text in
    left_out (ltb number (2 ^ 64) && bytes_eq text (decimal number)) number (λ both.
    let parts = and_parts (ltb number (2 ^ 64)) (bytes_eq text (decimal number)) both in
    none number (ltb-true number (2 ^ 64) parts.0) ((bytes_eq-Decides text (decimal number)).0 parts.1))

pub natural_is : (text : List ℕ) (read : Option ℕ) → IfSome read (λ number. text ≡ decimal number) → IfSome read (λ number. number < 2 ^ 64) → IfNone read ((number : ℕ) → number < 2 ^ 64 → text ≡ decimal number → ⊥) → read ≡ natural_of text
natural_is text (Some number) is small none = sym (natural_read text number is small)
natural_is text None is small none = sym (natural_refused text none)
