-- The fields of a message as a function of its octets, read from the left: the law
-- `fields_of_messages` says that these are the fields of IsMessage (pb_wire), and that just the
-- messages pass the test.
use Rattle.std.specs.Prelude.{ℕ, zero, suc, List, [], ◌∷◌, length, drop, Bool, nat_eq, Option, Some, None}
use Rattle.pb_wire.specs.declared.field.Field.{Field}
use Rattle.pb_message.specs.Fronts.{front_field}

-- the field at the front with those after it, or none and all the octets
abbrev pub after_field : (List ℕ → List Field × List ℕ) → List ℕ → Option (Field × List ℕ)
    → List Field × List ℕ
after_field others octets None = ([], octets)
after_field others octets (Some read) = (read.0 ∷ (others read.1).0, (others read.1).1)

-- the fields that stand at the front of the last octets of a message of `total`, so many at most,
-- and what is left
abbrev pub read_most : ℕ → ℕ → List ℕ → List Field × List ℕ
read_most zero total octets = ([], octets)
read_most (suc most) total octets =
    after_field (read_most most total) octets (front_field total octets)

unfoldable pub read_from : List ℕ → ℕ → List Field × List ℕ
read_from octets place =
    read_most (length (drop place octets)) (length octets) (drop place octets)

-- the fields that stand one after the other from a place of the message on
abbrev pub fields_at : List ℕ → ℕ → List Field
fields_at octets place = (read_from octets place).0

-- the fields of a message
abbrev pub all_fields : List ℕ → List Field
all_fields octets = fields_at octets 0

-- nothing is left behind its fields
abbrev pub is_message : List ℕ → Bool
is_message octets = nat_eq (length (read_from octets 0).1) 0
