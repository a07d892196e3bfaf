-- The field at the front is the one that is read there.
use Rattle.std.proofs.Common.{◌≡◌, ℕ, ◌+◌, ◌-◌, ◌<◌, ◌≤◌, List, [], ◌∷◌, ◌++◌, length, drop, Option, Some, None, refl, sym, ◌∙◌}
use Rattle.pb_wire.specs.declared.field.Field.{Field}
use Rattle.pb_wire.specs.Message.{IsField, AreFields, IsNextField}
use Rattle.pb_wire.specs.inner.Reading.{varint_at, delimited_at, body_at, field_at}
use Rattle.pb_wire.proofs.FieldLemmas as wire
use Rattle.pb_wire.proofs.SpellingLemmas.{Takes}
use Rattle.pb_wire.proofs.MessageLemmas as read
use Rattle.pb_wire.proofs.NextLemmas as next
use Rattle.pb_message.specs.Fronts.{front_varint, front_octets, front_body, front_field}

pub front_is : (total : ℕ) (octets : List ℕ) → front_field total octets ≡ field_at total octets
unfolding front_varint varint_at front_octets delimited_at front_body body_at front_field field_at
front_is total octets = refl

pub front_again : (total place : ℕ) (front rest : List ℕ) (field : Field) → place + length (front ++ rest) ≡ total
    → IsField place front field → front_field total (front ++ rest) ≡ Some (field, rest)
front_again total place front rest field all is =
    front_is total (front ++ rest) ∙ wire.field_again total place front rest field all is

pub front_takes : (total place : ℕ) (octets : List ℕ) (field : Field) (rest : List ℕ) → place + length octets ≡ total
    → front_field total octets ≡ Some (field, rest) → Takes (λ s. IsField place s field) octets rest
front_takes total place octets field rest all e =
    wire.field_takes total place octets field rest all (sym (front_is total octets) ∙ e)

pub front_nil : (total : ℕ) → front_field total [] ≡ None
front_nil total = front_is total [] ∙ read.field_at-nil total

pub first_front : (total place : ℕ) (octets : List ℕ) (field : Field) (fields : List Field) → place + length octets ≡ total
    → AreFields place octets (field ∷ fields)
    → (rest : List ℕ) × (front_field total octets ≡ Some (field, rest)) × (length rest ≤ length octets) × AreFields (total - length rest) rest fields
first_front total place octets field fields all are =
    let first = read.AreFields-first total place octets field fields all are in
    (first.0, front_is total octets ∙ first.1, first.2, first.3)

pub front_next : (octets : List ℕ) (place : ℕ) (field : Field) (rest : List ℕ) → place ≤ length octets
    → length rest < length (drop place octets) → front_field (length octets) (drop place octets) ≡ Some (field, rest)
    → IsNextField octets place field (length octets - length rest)
front_next octets place field rest le shorter e =
    next.read_is octets place field rest le shorter (sym (front_is (length octets) (drop place octets)) ∙ e)
