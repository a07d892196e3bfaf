-- NAME, as modules, nodes of a schema and the calls of a script have it: the identifiers of RFC 7950 6.2, at most 64
-- octets of them.
use Rattle.std.specs.Prelude.{ℕ, List, [], ◌∷◌, Bool, false, ◌&&◌, ◌||◌, ◌==◌, nat_le, length, Option, Some, None, if◌then◌else◌}
use Rattle.std.specs.List.{list_all}
use Rattle.std.specs.Char.{is_ascii_alphabetic, is_ascii_digit}

-- a letter of ASCII or `_`
abbrev pub begins_name : ℕ → Bool
begins_name octet = is_ascii_alphabetic octet || octet == 95

-- a letter, a digit, `_`, `.` or `-`
abbrev pub is_in_name : ℕ → Bool
is_in_name octet = begins_name octet || is_ascii_digit octet || octet == 46 || octet == 45

-- NAME: a letter or `_`, and up to 63 letters, digits, `_`, `.` or `-`
abbrev pub is_name : List ℕ → Bool
is_name [] = false
is_name (octet ∷ octets) =
    begins_name octet && list_all is_in_name octets && nat_le (length octets) 63

-- the octets as they are, where they are a name
abbrev pub name_of : List ℕ → Option (List ℕ)
name_of octets = if is_name octets then Some octets else None
