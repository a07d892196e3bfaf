-- The texts of numbers are ASCII, and so UTF-8.
use Rattle.std.proofs.Common.{ℕ, ◌+◌, ◌/◌, ◌%◌, ◌^◌, ◌<◌, ◌≤◌, zero, suc, List, [], ◌∷◌, eqb, ℤ, pos, negsuc, arith, IsUtf8}
use Rattle.std.specs.Str.{IsAscii}
use Rattle.std.specs.Fmt.{decimal, signed_decimal}
use Rattle.std.specs.Int.Signed.{mag}
use Rattle.std.proofs.Math.Nat.{div-le_self}
use Rattle.std.proofs.lemmas.Bool.{cond_both}
use Rattle.std.proofs.lemmas.Str.{IsUtf8-from_ascii, IsAscii-append}
use Rattle.std.proofs.lemmas.Str.Ascii.{IsAscii-nil, IsAscii-cons, IsAscii-push}
use Rattle.std.proofs.lemmas.Fmt.{IsAscii-decimal, IsAscii-signed}
use Rattle.base_kinds.specs.Texts.{last_digits, before_digits, without_last_zeros, fraction, scaled_text, dec_text}

pub decimal_utf8 : (n : ℕ) → n < 2 ^ 64 → IsUtf8 (decimal n)
decimal_utf8 n small = IsUtf8-from_ascii (decimal n) (IsAscii-decimal n small)

pub signed_utf8 : (z : ℤ) → mag z < 2 ^ 63 → IsUtf8 (signed_decimal z)
signed_utf8 z small = IsUtf8-from_ascii (signed_decimal z) (IsAscii-signed z small)

last_ascii : (places number : ℕ) → IsAscii (last_digits places number)
last_ascii zero number = IsAscii-nil
last_ascii (suc places) number = IsAscii-push (last_digits places (number / 10)) (48 + number % 10) (last_ascii places (number / 10)) (omega arith)

before_ascii : (digit : ℕ) (digits : List ℕ) → digit < 128 → IsAscii digits → IsAscii (before_digits digit digits)
before_ascii digit [] h k = cond_both (eqb digit 48) [] (digit ∷ []) IsAscii (λ _. IsAscii-nil) (λ _. IsAscii-cons digit [] h k)
before_ascii digit (x ∷ xs) h k = IsAscii-cons digit (x ∷ xs) h k

kept_ascii : (digits : List ℕ) → IsAscii digits → IsAscii (without_last_zeros digits)
kept_ascii [] h = h
kept_ascii (d ∷ ds) h = before_ascii d (without_last_zeros ds) (h 0) (kept_ascii ds (λ i. h (suc i)))

fraction_ascii : (digits : List ℕ) → IsAscii digits → IsAscii (fraction digits)
fraction_ascii [] h = IsAscii-cons 48 [] (omega arith) h
fraction_ascii (d ∷ ds) h = IsAscii-cons d (without_last_zeros ds) (h 0) (kept_ascii ds (λ i. h (suc i)))

below : (a b c : ℕ) → a ≤ b → b < c → a < c
below a b c h k = omega arith

scaled_ascii : (number places : ℕ) → number < 2 ^ 64 → IsAscii (scaled_text number places)
scaled_ascii number places small =
    IsAscii-append (decimal (number / 10 ^ places)) (46 ∷ fraction (last_digits places number))
    (IsAscii-decimal (number / 10 ^ places) (below (number / 10 ^ places) number (2 ^ 64) (div-le_self number (10 ^ places)) small))
    (IsAscii-cons 46 (fraction (last_digits places number)) (omega arith) (fraction_ascii (last_digits places number) (last_ascii places number)))

dec_ascii : (digits : ℤ) (places : ℕ) → mag digits < 2 ^ 63 → IsAscii (dec_text digits places)
dec_ascii (pos n) places small = scaled_ascii n places (below n n (2 ^ 64) (omega arith) (omega arith))
dec_ascii (negsuc n) places small = IsAscii-cons 45 (scaled_text (suc n) places) (omega arith) (scaled_ascii (suc n) places (omega arith))

pub dec_utf8 : (digits : ℤ) (places : ℕ) → mag digits < 2 ^ 63 → IsUtf8 (dec_text digits places)
dec_utf8 digits places small = IsUtf8-from_ascii (dec_text digits places) (dec_ascii digits places small)
