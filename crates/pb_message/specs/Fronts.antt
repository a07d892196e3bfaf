-- The field at the front of octets, and the octets behind it (protobuf.dev, "Encoding"), as a
-- function: the law `fields_of_messages` says that so read fields are those of IsMessage (pb_wire).
use Rattle.std.specs.Prelude.{ℕ, ◌+◌, ◌-◌, ◌/◌, ◌%◌, ◌^◌, List, length, take, drop, Option, Some, None, nat_lt, nat_le, ◌==◌, if◌then◌else◌}
use Rattle.std.specs.List.{position}
use Rattle.std.specs.Int.{Width, w32, w64, byte_len, from_le_bytes}
use Rattle.base_lists.specs.Options.{◌>>=◌}
use Rattle.base_lists.specs.SevenBits.{number_of_groups}
use Rattle.pb_wire.specs.declared.field.Body.{Body}
use Rattle.pb_wire.specs.declared.field.Body.TheVariants.{Varint, Eight, Octets, Four}
use Rattle.pb_wire.specs.declared.field.Field.{Field}

-- the octets of a varint, the last of which is below 128: ten at most
abbrev pub front_spelling : List ℕ → Option (List ℕ × List ℕ)
front_spelling octets = do
  last ← position (λ octet. nat_lt octet 128) octets
  if nat_lt last 10 then Some (take (last + 1) octets, drop (last + 1) octets) else None

-- seven bits an octet, the lowest first, 64 bits at most
abbrev pub varint_value : List ℕ → Option ℕ
varint_value octets =
    if nat_lt (number_of_groups octets) (2 ^ 64) then Some (number_of_groups octets) else None

unfoldable pub front_varint : List ℕ → Option (ℕ × List ℕ)
front_varint octets = do
  parts ← front_spelling octets
  value ← varint_value parts.0
  Some (value, parts.1)

-- four or eight octets, the lowest first
abbrev pub front_number : Width → List ℕ → Option (ℕ × List ℕ)
front_number w octets =
    if nat_lt (length octets) (byte_len w) then None
    else Some (from_le_bytes w (take (byte_len w) octets), drop (byte_len w) octets)

-- a length and so many octets, which are the last of a message of `total`
unfoldable pub front_octets : ℕ → List ℕ → Option (Body × List ℕ)
front_octets total octets = do
  len ← front_varint octets
  if nat_lt (length len.1) len.0 then None
      else Some (
        Octets (total - length len.1) (total - length len.1 + len.0),
        drop len.0 len.1,
      )

-- what stands behind a tag, by its wire type
unfoldable pub front_body : ℕ → ℕ → List ℕ → Option (Body × List ℕ)
front_body total kind octets =
    if kind == 0 then (do
      n ← front_varint octets
      Some (Varint n.0, n.1))
    else if kind == 1 then (do
      n ← front_number w64 octets
      Some (Eight n.0, n.1))
    else if kind == 2 then front_octets total octets
    else if kind == 5 then (do
      n ← front_number w32 octets
      Some (Four n.0, n.1))
    else None

-- A tag is a number times 8 and a wire type. The number is at least 1 and below 2^29.
unfoldable pub front_field : ℕ → List ℕ → Option (Field × List ℕ)
front_field total octets = do
  tag ← front_varint octets
  if nat_lt tag.0 8 then None else (if nat_le (2 ^ 32) tag.0 then None else (do
    body ← front_body total (tag.0 % 8) tag.1
    Some (record { number = tag.0 / 8; body = body.0 }, body.1)))
