-- The definitions at concrete octets.
use Rattle.std.proofs.Common.{◌≡◌, ℕ, List, [], ◌∷◌, Some, None, true, false, refl}
use Rattle.pb_message.specs.Fronts.{front_varint, front_octets, front_body, front_field}
use Rattle.pb_message.specs.Fields.{read_from, is_message}
use Rattle.pb_message.specs.Values.{number_under, message_under, member_under, has_number_above}

-- 08 96 01
number_under-150 : number_under 1 (8 ∷ 150 ∷ 1 ∷ []) ≡ Some 150
unfolding read_from front_varint front_octets front_body front_field
number_under-150 = refl

-- a tag alone
is_message-tag : is_message (8 ∷ []) ≡ false
unfolding read_from front_varint front_octets front_body front_field
is_message-tag = refl

is_message-empty : is_message [] ≡ true
unfolding read_from front_varint front_octets front_body front_field
is_message-empty = refl

-- 0a 01 61 12 01 62 0a 01 63: the octets of 1 are joined, and a oneof of 1 and 2 holds the last 1
-- alone
message_under-1 : message_under 1 (10 ∷ 1 ∷ 97 ∷ 18 ∷ 1 ∷ 98 ∷ 10 ∷ 1 ∷ 99 ∷ [])
    ≡ Some (97 ∷ 99 ∷ [])
unfolding read_from front_varint front_octets front_body front_field
message_under-1 = refl

member_under-1 : member_under (1 ∷ 2 ∷ []) (10 ∷ 1 ∷ 97 ∷ 18 ∷ 1 ∷ 98 ∷ 10 ∷ 1 ∷ 99 ∷ [])
    ≡ Some (1, 99 ∷ [])
unfolding read_from front_varint front_octets front_body front_field
member_under-1 = refl

has_number_above-5 : has_number_above 5 (48 ∷ 0 ∷ []) ≡ true
unfolding read_from front_varint front_octets front_body front_field
has_number_above-5 = refl
