-- Decimal numbers as they are read, in more forms than they are written in (RFC 7950 9.3.1, RFC 7951 6.1): as a fact,
-- and as the function whose law is DecimalsByFunction.
use Rattle.std.specs.Prelude.{◌≡◌, ℕ, zero, suc, ◌-◌, ◌<◌, ◌≤◌, ◌==◌, ◌&&◌, List, [], ◌∷◌, ◌++◌, Bool, true, false, length, drop, replicate, nat_lt, nat_le, if◌then◌else◌, IsTrue, ℤ, pos, negsuc, Option, Some, None}
use Rattle.std.specs.List.{list_all, before_first, after_first}
use Rattle.std.specs.Char.{digit_value}
use Rattle.std.specs.Str.{bytes_eq}
use Rattle.std.specs.Fmt.{sign_text}
use Rattle.std.specs.Str.Parse.{AllDigits, digits_value, starts_with_minus}
use Rattle.base_kinds.specs.Values.{fits_signed}

-- the number, or its negative
abbrev pub signed : Bool → ℕ → ℤ
signed false number = pos number
signed true zero = pos zero
signed true (suc number) = negsuc number

-- the same, where 64 bits hold it
abbrev pub with_sign : Bool → ℕ → Option ℤ
with_sign negative number =
    if fits_signed 64 (signed negative number) then Some (signed negative number) else None

-- `.` and the digits, or nothing where there are none
abbrev pub point_text : List ℕ → List ℕ
point_text [] = []
point_text (digit ∷ digits) = 46 ∷ digit ∷ digits

-- the digits, and zeros up to so many places
abbrev pub filled : ℕ → List ℕ → List ℕ
filled places digits = digits ++ replicate (places - length digits) 48

-- The octets are an optional `-`, one or more digits, and optionally `.` with one to so many digits behind it. They
-- stand for the digits that they write where zeros fill the places behind the point, a number of 64 bits.
pub record IsDecimal (places : ℕ) (octets : List ℕ) (digits : ℤ) : Type 0 where
  pub negative : Bool
  pub whole : List ℕ
  pub behind : List ℕ
  pub spelled : octets ≡ sign_text negative ++ (whole ++ point_text behind)
  pub some : 0 < length whole
  pub whole_digits : AllDigits 10 whole
  pub behind_digits : AllDigits 10 behind
  pub few : length behind ≤ places
  pub meaning : digits ≡ signed negative (digits_value 10 (whole ++ filled places behind))
  pub held : IsTrue (fits_signed 64 digits)

abbrev pub is_point : ℕ → Bool
is_point octet = octet == 46

-- decimal digits alone
abbrev pub are_digits : List ℕ → Bool
are_digits octets = list_all (λ octet. nat_lt (digit_value octet) 10) octets

abbrev pub decimal_value : ℕ → Bool → List ℕ → List ℕ → ℤ
decimal_value places negative whole behind =
    signed negative (digits_value 10 (whole ++ filled places behind))

-- the text is this sign, some digits, and perhaps a point with one to so many digits behind it;
-- 64 bits hold the value
abbrev pub is_decimal : ℕ → List ℕ → Bool → List ℕ → List ℕ → Bool
is_decimal places text negative whole behind =
    bytes_eq text (sign_text negative ++ (whole ++ point_text behind))
    && nat_lt 0 (length whole) && are_digits whole && are_digits behind
    && nat_le (length behind) places
    && fits_signed 64 (decimal_value places negative whole behind)

abbrev pub decimal_if : ℕ → List ℕ → Bool → List ℕ → List ℕ → Option ℤ
decimal_if places text negative whole behind =
    if is_decimal places text negative whole behind
    then Some (decimal_value places negative whole behind) else None

-- what follows a `-` at the front, or all
abbrev pub unsigned_part : List ℕ → List ℕ
unsigned_part text = drop (if starts_with_minus text then 1 else 0) text

-- the digits of the decimal that the text is, cut at its first point; zeros fill the places that it leaves out
unfoldable pub decimal_of : ℕ → List ℕ → Option ℤ
decimal_of places text =
    decimal_if places text (starts_with_minus text)
    (before_first is_point (unsigned_part text)) (after_first is_point (unsigned_part text))
