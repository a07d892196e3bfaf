-- How paths and values are written in scripts and logs. The forms are this project's own; paths are close to the path
-- strings of the gNMI path conventions (2.2.2), decimals are those of RFC 7950 9.3.2, base64 is that of RFC 4648 4.
use Rattle.std.specs.Prelude.{ℕ, ◌+◌, ◌/◌, ◌%◌, ◌^◌, zero, suc, List, [], ◌∷◌, ◌++◌, Bool, true, false, not, ◌&&◌, ◌||◌, ◌==◌, nat_le, nat_lt, codes, if◌then◌else◌, ℤ, pos, negsuc}
use Rattle.std.specs.List.{flat_map}
use Rattle.std.specs.Fmt.{decimal, signed_decimal}
use Rattle.base64.specs.GeneralPurpose.{encode_of}
use Rattle.base64.specs.Engines.{standard}
use Rattle.base_kinds.specs.declared.path.Elem.{Elem}
use Rattle.base_kinds.specs.declared.value.Value.{Value, Row_of-Value, end_of-Value, more_of-Value}
use Rattle.base_kinds.specs.declared.value.Value as v

abbrev pub is_within : ℕ → ℕ → ℕ → Bool
is_within low high octet = nat_le low octet && nat_le octet high

-- 0 to 9 and a to f
abbrev pub hex_digit : ℕ → ℕ
hex_digit digit = if nat_lt digit 10 then 48 + digit else 87 + digit

-- `\` and two hexadecimal digits
abbrev pub escape : ℕ → List ℕ
escape octet = 92 ∷ hex_digit (octet / 16) ∷ hex_digit (octet % 16) ∷ []

-- an octet that passes the test stands for itself, and every other one is escaped
abbrev pub octet_text : (ℕ → Bool) → ℕ → List ℕ
octet_text test octet = if test octet then octet ∷ [] else escape octet

abbrev pub escaped : (ℕ → Bool) → List ℕ → List ℕ
escaped test octets = flat_map (octet_text test) octets

-- letters, digits, `_`, `.`, `-` and `*`
abbrev pub is_name_octet : ℕ → Bool
is_name_octet octet =
    is_within 65 90 octet || is_within 97 122 octet || is_within 48 57 octet || octet == 95
    || octet == 46 || octet == 45 || octet == 42

-- from `!` to `~`, but neither `\` nor `]`
abbrev pub is_key_octet : ℕ → Bool
is_key_octet octet = is_within 33 126 octet && not (octet == 92) && not (octet == 93)

-- from space to `~`, but neither `"` nor `\`
abbrev pub is_quoted_octet : ℕ → Bool
is_quoted_octet octet = is_within 32 126 octet && not (octet == 34) && not (octet == 92)

-- `[NAME=VALUE]`
abbrev pub key_part : List ℕ × List ℕ → List ℕ
key_part key = 91 ∷ (escaped is_name_octet key.0 ++ 61 ∷ (escaped is_key_octet key.1 ++ 93 ∷ []))

-- `/NAME`, and its keys
abbrev pub elem_text : Elem → List ℕ
elem_text elem = 47 ∷ (escaped is_name_octet elem.name ++ flat_map key_part elem.keys)

-- the root is `/`
abbrev pub path_text : List Elem → List ℕ
path_text [] = 47 ∷ []
path_text (elem ∷ elems) = flat_map elem_text (elem ∷ elems)

-- a text between two `"`
abbrev pub quoted : List ℕ → List ℕ
quoted text = 34 ∷ (escaped is_quoted_octet text ++ 34 ∷ [])

-- the last so many digits of a number
abbrev pub last_digits : ℕ → ℕ → List ℕ
last_digits zero number = []
last_digits (suc places) number = last_digits places (number / 10) ++ (48 + number % 10) ∷ []

-- a digit in front of others, but for a zero with none behind it
abbrev pub before_digits : ℕ → List ℕ → List ℕ
before_digits digit [] = if digit == 48 then [] else digit ∷ []
before_digits digit (other ∷ others) = digit ∷ other ∷ others

abbrev pub without_last_zeros : List ℕ → List ℕ
without_last_zeros [] = []
without_last_zeros (digit ∷ digits) = before_digits digit (without_last_zeros digits)

-- the digits behind the point: without zeros at the end, but at least one
abbrev pub fraction : List ℕ → List ℕ
fraction [] = 48 ∷ []
fraction (digit ∷ digits) = digit ∷ without_last_zeros digits

-- the number divided by 10 to the power of `places`
abbrev pub scaled_text : ℕ → ℕ → List ℕ
scaled_text number places =
    decimal (number / 10 ^ places) ++ (46 ∷ fraction (last_digits places number))

-- a decimal64 (RFC 7950 9.3): a `-` where it is negative, the whole part, `.`, and the fraction
abbrev pub dec_text : ℤ → ℕ → List ℕ
dec_text (pos number) places = scaled_text number places
dec_text (negsuc number) places = 45 ∷ scaled_text (suc number) places

abbrev pub bool_text : Bool → List ℕ
bool_text true = codes "true"
bool_text false = codes "false"

-- texts with a comma between two of them
abbrev pub comma_separated : List (List ℕ) → List ℕ
comma_separated [] = []
comma_separated (text ∷ []) = text
comma_separated (text ∷ other ∷ others) = text ++ (44 ∷ comma_separated (other ∷ others))

-- base64 with padding (RFC 4648 4)
abbrev pub base64_text : List ℕ → List ℕ
base64_text octets = encode_of standard octets

abbrev mutual
  pub value_text : Value → List ℕ
  value_text (v.Bool b) = bool_text b
  value_text (v.Int number) = signed_decimal number
  value_text (v.Uint number) = decimal number
  value_text (v.Dec digits places) = dec_text digits places
  value_text (v.Text text) = quoted text
  value_text (v.Bin octets) = 98 ∷ 58 ∷ base64_text octets
  value_text (v.Enum text) = quoted text
  value_text (v.List' n values) = 91 ∷ (comma_separated (value_texts values) ++ 93 ∷ [])

  pub value_texts : {n : _} → Row_of-Value n → List (List ℕ)
  value_texts end_of-Value = []
  value_texts (more_of-Value value others) = value_text value ∷ value_texts others
