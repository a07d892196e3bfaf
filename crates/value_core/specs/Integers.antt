-- Integers as they are written in decimal, and in no other form (RFC 7950 9.2.1).
use Rattle.std.specs.Prelude.{ℕ, ◌&&◌, List, if◌then◌else◌, ℤ, Option, Some, None}
use Rattle.std.specs.Fmt.{signed_decimal}
use Rattle.std.specs.Str.{bytes_eq}
use Rattle.std.specs.Str.Parse.{signed_digits_value}
use Rattle.base_kinds.specs.Values.{fits_signed}

abbrev pub integer_if : List ℕ → ℤ → Option ℤ
integer_if text number =
    if fits_signed 64 number && bytes_eq text (signed_decimal number) then Some number else None

-- The number of 64 bits whose decimal text this is: digits, a `-` before those of a negative number, and no zero before
-- others. Of a number without a sign it is `natural_of`, of plain_texts.
unfoldable pub integer_of : List ℕ → Option ℤ
integer_of text = integer_if text (signed_digits_value 10 text)
