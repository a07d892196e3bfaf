-- How a field is written, in the shortest spelling, and fields whose octets follow others.
use Rattle.std.specs.Prelude.{ℕ, ◌+◌, ◌*◌, List, ◌∷◌, ◌++◌, length, map}
use Rattle.pb_wire.specs.declared.field.Body.{Body}
use Rattle.pb_wire.specs.declared.field.Body.TheVariants.{Varint, Eight, Octets, Four}
use Rattle.pb_wire.specs.declared.field.Field.{Field}
use Rattle.pb_wire.specs.Varint.{shortest}

-- a number from 1 to 15 has a tag of one octet
abbrev pub varint_field : ℕ → ℕ → List ℕ
varint_field number value = number * 8 ∷ shortest value

abbrev pub octets_field : ℕ → List ℕ → List ℕ
octets_field number octets = (number * 8 + 2) ∷ (shortest (length octets) ++ octets)

-- The only field of a message that `octets_field` spells: its octets are the last of the message.
abbrev pub octets_body : List ℕ → Body
octets_body octets =
    Octets (1 + length (shortest (length octets)))
    (1 + length (shortest (length octets)) + length octets)

-- the body of a field before which so many octets are put
abbrev pub shifted_body : ℕ → Body → Body
shifted_body by (Varint n) = Varint n
shifted_body by (Eight n) = Eight n
shifted_body by (Octets from to) = Octets (by + from) (by + to)
shifted_body by (Four n) = Four n

abbrev pub shifted : ℕ → List Field → List Field
shifted by fields =
    map (λ (field : Field). record {
      number = field.number;
      body = shifted_body by field.body;
    }) fields
