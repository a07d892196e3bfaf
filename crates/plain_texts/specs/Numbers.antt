-- Numbers in decimal, without sign and leading zeros.
use Rattle.std.specs.Prelude.{ℕ, ◌^◌, List, ◌&&◌, nat_lt, Option, Some, None, if◌then◌else◌}
use Rattle.std.specs.Fmt.{decimal}
use Rattle.std.specs.Str.{bytes_eq}
use Rattle.std.specs.Str.Parse.{digits_value}

abbrev pub natural_if : List ℕ → ℕ → Option ℕ
natural_if text number =
    if nat_lt number (2 ^ 64) && bytes_eq text (decimal number) then Some number else None

-- the number of 64 bits whose decimal text this is: digits, and no zero before others
unfoldable pub natural_of : List ℕ → Option ℕ
natural_of text = natural_if text (digits_value 10 text)
