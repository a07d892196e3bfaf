-- The text that is written of a decimal is read as it.
use Rattle.std.proofs.Common.{◌≡◌, ℕ, ◌+◌, ◌-◌, ◌*◌, ◌/◌, ◌%◌, ◌^◌, ◌<◌, ◌≤◌, zero, suc, List, [], ◌∷◌, ◌++◌, Bool, true, false, eqb, length, replicate, refl, sym, ap, subst, ◌∙◌, ℤ, pos, negsuc, IsTrue, IfSome, Option, Some, None, codes, arith}
use Rattle.std.specs.Char.{digit_value}
use Rattle.std.specs.Fmt.{decimal, signed_decimal, sign_text}
use Rattle.std.specs.Str.Parse.{AllDigits, digits_value, digits_value_after}
use Rattle.std.proofs.Math.Nat.{div-le_self}
use Rattle.std.proofs.lemmas.Bool.{cond_both, ltb-true, eqb-true}
use Rattle.std.proofs.lemmas.Bool.Decides.{nat_tests}
use Rattle.std.proofs.lemmas.Fmt.{decimal_is_IsNumeral, signed_decimal_injective}
use Rattle.std.proofs.lemmas.Int.Digits.{digits_push}
use Rattle.std.proofs.lemmas.List.{append_cancel_right}
use Rattle.base_kinds.specs.Texts.{last_digits, before_digits, without_last_zeros, fraction, scaled_text, dec_text}
use Rattle.base_kinds.specs.Values.{fits_signed}
use Rattle.value_core.specs.Decimals.{signed, filled, point_text, IsDecimal}
use Rattle.value_core.proofs.Digits.{value_append}
use Rattle.value_core.proofs.Parts.{one_decimal}
use Rattle.value_core.proofs.Ranges.{magnitude}
use Rattle.value_core.proofs.Glyphs.{length-last_digits, tenth, undivided}

digit_of : (d : ℕ) → d < 10 → digit_value (48 + d) ≡ d
digit_of d small = grind (arith, nat_tests)

tens : (n d : ℕ) → d ≡ n % 10 → n / 10 * 10 + d ≡ n
tens n d is = omega arith

last_all_digits : (places number : ℕ) → AllDigits 10 (last_digits places number)
last_all_digits zero number = tt
last_all_digits (suc places) number =
    let small : number % 10 < 10 = omega arith in
    digits_push 10 (last_digits places (number / 10)) (48 + number % 10) (last_all_digits places (number / 10)) (subst (λ v. v < 10) (sym (digit_of (number % 10) small)) small)

value_last : (places number : ℕ) → digits_value_after 10 (number / 10 ^ places) (last_digits places number) ≡ number
value_last zero number = undivided number
value_last (suc places) number =
    let small : number % 10 < 10 = omega arith in
    value_append (number / 10 ^ (suc places)) (last_digits places (number / 10)) ((48 + number % 10) ∷ [])
    ∙ ap (λ v. v * 10 + digit_value (48 + number % 10)) (ap (λ q. digits_value_after 10 q (last_digits places (number / 10))) (sym (tenth places number)) ∙ value_last places (number / 10))
    ∙ tens number (digit_value (48 + number % 10)) (digit_of (number % 10) small)

before_all : (digit : ℕ) (digits : List ℕ) → digit_value digit < 10 → AllDigits 10 digits → AllDigits 10 (before_digits digit digits)
before_all digit [] h k = cond_both (eqb digit 48) [] (digit ∷ []) (AllDigits 10) (λ _. tt) (λ _. (h, tt))
before_all digit (x ∷ xs) h k = (h, k)

kept_all : (digits : List ℕ) → AllDigits 10 digits → AllDigits 10 (without_last_zeros digits)
kept_all [] h = tt
kept_all (d ∷ ds) h = before_all d (without_last_zeros ds) h.0 (kept_all ds h.1)

fraction_all : (digits : List ℕ) → AllDigits 10 digits → AllDigits 10 (fraction digits)
fraction_all [] h = (omega arith, tt)
fraction_all (d ∷ ds) h = (h.0, kept_all ds h.1)

before_length : (digit : ℕ) (kept digits : List ℕ) → length kept ≤ length digits → length (before_digits digit kept) ≤ suc (length digits)
before_length digit [] digits h = cond_both (eqb digit 48) [] (digit ∷ []) (λ r. length r ≤ suc (length digits)) (λ _. omega arith) (λ _. omega arith)
before_length digit (x ∷ xs) digits h = omega (arith, h)

kept_length : (digits : List ℕ) → length (without_last_zeros digits) ≤ length digits
kept_length [] = omega arith
kept_length (d ∷ ds) = before_length d (without_last_zeros ds) ds (kept_length ds)

fraction_length : (digits : List ℕ) (places : ℕ) → length digits ≡ places → 1 ≤ places → length (fraction digits) ≤ places
fraction_length [] places is some = absurd (omega arith)
fraction_length (d ∷ ds) places is some = let h = kept_length ds in omega (arith, h, is)

point_fraction : (digits : List ℕ) → point_text (fraction digits) ≡ 46 ∷ fraction digits
point_fraction [] = refl
point_fraction (d ∷ ds) = refl

zero_back : (digit : ℕ) (digits : List ℕ) → replicate (length digits) 48 ≡ digits → digit ≡ 48 → replicate (suc (length digits)) 48 ≡ digit ∷ digits
zero_back digit digits back is = ap (λ r. 48 ∷ r) back ∙ ap (λ d. d ∷ digits) (sym is)

-- the zeros that were left out fill what is kept up again
before_back : (digit : ℕ) (digits kept : List ℕ) → kept ++ replicate (length digits - length kept) 48 ≡ digits → before_digits digit kept ++ replicate (suc (length digits) - length (before_digits digit kept)) 48 ≡ digit ∷ digits
before_back digit digits [] back =
    let zeros : replicate (length digits) 48 ≡ digits = ap (λ k. replicate k 48) (less (length digits)) ∙ back in
    cond_both (eqb digit 48) [] (digit ∷ []) (λ r. r ++ replicate (suc (length digits) - length r) 48 ≡ digit ∷ digits)
    (λ same. ap (λ k. replicate k 48) (sym (less (suc (length digits)))) ∙ zero_back digit digits zeros (eqb-true digit 48 same))
    (λ _. ap (λ k. digit ∷ replicate k 48) (one_less (length digits)) ∙ ap (λ r. digit ∷ r) zeros)
  where
    less : (n : ℕ) → n ≡ n - 0
    less n = omega arith

    one_less : (n : ℕ) → suc n - 1 ≡ n
    one_less n = omega arith
before_back digit digits (x ∷ xs) back =
    let e : suc (length digits) - length (digit ∷ x ∷ xs) ≡ length digits - length (x ∷ xs) = omega arith in
    ap (λ k. (digit ∷ x ∷ xs) ++ replicate k 48) e ∙ ap (λ r. digit ∷ r) back

kept_back : (digits : List ℕ) → without_last_zeros digits ++ replicate (length digits - length (without_last_zeros digits)) 48 ≡ digits
kept_back [] = refl
kept_back (d ∷ ds) = before_back d ds (without_last_zeros ds) (kept_back ds)

fraction_back : (digits : List ℕ) (places : ℕ) → length digits ≡ places → 1 ≤ places → filled places (fraction digits) ≡ digits
fraction_back [] places is some = absurd (omega arith)
fraction_back (d ∷ ds) places is some =
    let e : places - length (d ∷ without_last_zeros ds) ≡ length ds - length (without_last_zeros ds) = omega (arith, is) in
    ap (λ k. (d ∷ without_last_zeros ds) ++ replicate k 48) e ∙ ap (λ r. d ∷ r) (kept_back ds)

below : (a b c : ℕ) → a ≤ b → b < c → a < c
below a b c h k = omega arith

scaled_read : (negative : Bool) (number places : ℕ) (octets : List ℕ) (digits : ℤ) → number < 2 ^ 64 → 1 ≤ places → octets ≡ sign_text negative ++ scaled_text number places → digits ≡ signed negative number → IsTrue (fits_signed 64 digits) → IsDecimal places octets digits
scaled_read negative number places octets digits small some is value held =
    let last = last_digits places number in
    let front = number / 10 ^ places in
    let front_small = below front number (2 ^ 64) (div-le_self number (10 ^ places)) small in
    let numeral = decimal_is_IsNumeral front front_small in
    record {
      negative = negative;
      whole = decimal front;
      behind = fraction last;
      spelled = is ∙ ap (λ r. sign_text negative ++ (decimal front ++ r)) (sym (point_fraction last));
      some = numeral.0.0;
      whole_digits = numeral.0.1;
      behind_digits = fraction_all last (last_all_digits places number);
      few = fraction_length last places (length-last_digits places number) some;
      meaning = value ∙ ap (signed negative) (sym (
          ap (λ r. digits_value 10 (decimal front ++ r)) (fraction_back last places (length-last_digits places number) some)
          ∙ value_append 0 (decimal front) last
          ∙ ap (λ v. digits_value_after 10 v last) numeral.1
          ∙ value_last places number));
      held = held;
    }

pub read_back : (places : ℕ) (digits : ℤ) → 1 ≤ places → IsTrue (fits_signed 64 digits) → IsDecimal places (dec_text digits places) digits
read_back places (pos n) some held = scaled_read false n places (dec_text (pos n) places) (pos n) (small n (ltb-true n (2 ^ 63) held)) some refl refl held
  where
    small : (n : ℕ) → n < 2 ^ 63 → n < 2 ^ 64
    small n h = omega arith
read_back places (negsuc n) some held = scaled_read true (suc n) places (dec_text (negsuc n) places) (negsuc n) (small n (ltb-true n (2 ^ 63) held)) some refl refl held
  where
    small : (n : ℕ) → n < 2 ^ 63 → suc n < 2 ^ 64
    small n h = omega arith

-- with no places, `.0` stands behind the number
pub whole_text : (digits : ℤ) → dec_text digits 0 ≡ signed_decimal digits ++ codes ".0"
whole_text (pos n) = ap (λ q. decimal q ++ codes ".0") (undivided n)
whole_text (negsuc n) = ap (λ q. 45 ∷ (decimal q ++ codes ".0")) (undivided (suc n))

same_whole : (octets front : List ℕ) (digits : ℤ) → octets ≡ front ++ codes ".0" → octets ≡ dec_text digits 0 → front ≡ signed_decimal digits
same_whole octets front digits is written = append_cancel_right front (signed_decimal digits) (codes ".0") (sym is ∙ written ∙ whole_text digits)

pub no_whole : (octets : List ℕ) → ((front : List ℕ) → octets ≡ front ++ codes ".0" → ⊥) → (digits : ℤ) → IsTrue (fits_signed 64 digits) → octets ≡ dec_text digits 0 → ⊥
no_whole octets none digits held written = none (signed_decimal digits) (written ∙ whole_text digits)

pub unread_whole : (octets front : List ℕ) → octets ≡ front ++ codes ".0" → ((z : ℤ) → IsTrue (fits_signed 64 z) → front ≡ signed_decimal z → ⊥) → (digits : ℤ) → IsTrue (fits_signed 64 digits) → octets ≡ dec_text digits 0 → ⊥
unread_whole octets front is none digits held written = none digits held (same_whole octets front digits is written)

pub one_whole : (octets front : List ℕ) (digits read : ℤ) → octets ≡ front ++ codes ".0" → front ≡ signed_decimal read → IsTrue (fits_signed 64 read) → IsTrue (fits_signed 64 digits) → octets ≡ dec_text digits 0 → digits ≡ read
one_whole octets front digits read is reads held held' written =
    signed_decimal_injective digits read (magnitude digits held') (magnitude read held) (sym (same_whole octets front digits is written) ∙ reads)

pub whole_if_some : (octets front : List ℕ) (o : Option ℤ) → octets ≡ front ++ codes ".0" → IfSome o (λ read. front ≡ signed_decimal read) → IfSome o (λ read. IsTrue (fits_signed 64 read)) → IfSome o (λ read. (digits : ℤ) → IsTrue (fits_signed 64 digits) → octets ≡ dec_text digits 0 → digits ≡ read)
whole_if_some octets front None is reads held = tt
whole_if_some octets front (Some read) is reads held = λ digits. one_whole octets front digits read is reads held

pub one_written : (places : ℕ) (octets : List ℕ) (digits read : ℤ) → 1 ≤ places → IsDecimal places octets read → IsTrue (fits_signed 64 digits) → octets ≡ dec_text digits places → digits ≡ read
one_written places octets digits read some d held written =
    one_decimal places octets digits read (subst (λ o. IsDecimal places o digits) (sym written) (read_back places digits some held)) d

pub unread : (places : ℕ) (octets : List ℕ) → 1 ≤ places → ((z : ℤ) → IsDecimal places octets z → ⊥) → (digits : ℤ) → IsTrue (fits_signed 64 digits) → octets ≡ dec_text digits places → ⊥
unread places octets some none digits held written = none digits (subst (λ o. IsDecimal places o digits) (sym written) (read_back places digits some held))

-- two decimals that are written alike are the same
pub dec_injective : (places : ℕ) (a b : ℤ) → IsTrue (fits_signed 64 a) → IsTrue (fits_signed 64 b) → dec_text a places ≡ dec_text b places → a ≡ b
dec_injective zero a b held held' same =
    signed_decimal_injective a b (magnitude a held) (magnitude b held') (append_cancel_right (signed_decimal a) (signed_decimal b) (codes ".0") (sym (whole_text a) ∙ same ∙ whole_text b))
dec_injective (suc places) a b held held' same =
    one_written (suc places) (dec_text b (suc places)) a b (omega arith) (read_back (suc places) b (omega arith) held') held (sym same)
