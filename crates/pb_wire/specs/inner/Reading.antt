-- Reading one field from the left: what stands at the front, and the octets after it, if there is such a field.
-- Only private functions cite these steps: what a message is stands in Message.antt, and each step is proved to agree.
use Rattle.std.specs.Prelude.{ℕ, ◌+◌, ◌-◌, ◌/◌, ◌%◌, ◌^◌, List, length, take, drop, Option, Some, None, nat_lt, nat_le, ◌==◌, if◌then◌else◌}
use Rattle.std.specs.List.{position}
use Rattle.std.specs.Int.{Width, w32, w64, byte_len, from_le_bytes}
use Rattle.base_lists.specs.Options.{◌>>=◌}
use Rattle.pb_wire.specs.declared.field.Body.{Body}
use Rattle.pb_wire.specs.declared.field.Body.TheVariants.{Varint, Eight, Octets, Four}
use Rattle.pb_wire.specs.declared.field.Field.{Field}
use Rattle.base_lists.specs.SevenBits.{number_of_groups}

-- the place of the first octet below 128
abbrev pub last_place : List ℕ → Option ℕ
last_place octets = position (λ b. nat_lt b 128) octets

abbrev pub value_in : List ℕ → Option ℕ
value_in octets = if nat_lt (number_of_groups octets) (2 ^ 64) then Some (number_of_groups octets)
    else None

abbrev pub spelling_at : List ℕ → Option (List ℕ × List ℕ)
spelling_at octets = do
  last ← last_place octets
  if nat_lt last 10 then Some (take (last + 1) octets, drop (last + 1) octets) else None

unfoldable pub varint_at : List ℕ → Option (ℕ × List ℕ)
varint_at octets = do
  parts ← spelling_at octets
  n ← value_in parts.0
  Some (n, parts.1)

abbrev pub number_at : Width → List ℕ → Option (ℕ × List ℕ)
number_at w octets = if nat_lt (length octets) (byte_len w) then None
    else Some (from_le_bytes w (take (byte_len w) octets), drop (byte_len w) octets)

-- `total` octets are in the message, of which these are the last
unfoldable pub delimited_at : ℕ → List ℕ → Option (Body × List ℕ)
delimited_at total octets = do
  n ← varint_at octets
  if nat_lt (length n.1) n.0 then None
      else Some (Octets (total - length n.1) (total - length n.1 + n.0), drop n.0 n.1)

unfoldable pub body_at : ℕ → ℕ → List ℕ → Option (Body × List ℕ)
body_at total kind octets =
    if kind == 0 then (do
      n ← varint_at octets
      Some (Varint n.0, n.1))
    else if kind == 1 then (do
      n ← number_at w64 octets
      Some (Eight n.0, n.1))
    else if kind == 2 then delimited_at total octets
    else if kind == 5 then (do
      n ← number_at w32 octets
      Some (Four n.0, n.1))
    else None

unfoldable pub field_at : ℕ → List ℕ → Option (Field × List ℕ)
field_at total octets = do
  tag ← varint_at octets
  if nat_lt tag.0 8 then None else (if nat_le (2 ^ 32) tag.0 then None else (do
    body ← body_at total (tag.0 % 8) tag.1
    Some (record { number = tag.0 / 8; body = body.0 }, body.1)))
