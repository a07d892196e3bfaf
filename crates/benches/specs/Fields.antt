-- The checksum of the fields of a message.
use Rattle.std.specs.Prelude.{◌≡◌, ℕ, ◌-◌, List, fold}
use Rattle.pb_wire.specs.declared.field.Body.{Body}
use Rattle.pb_wire.specs.declared.field.Body.TheVariants.{Varint, Eight, Octets, Four}
use Rattle.pb_wire.specs.declared.field.Field.{Field}
use Rattle.pb_wire.specs.Message.{IsMessage}
use Rattle.benches.specs.Checksum.{added}

-- the number that a field holds, or how many octets
abbrev pub figure : Body → ℕ
figure (Varint n) = n
figure (Eight n) = n
figure (Octets from to) = to - from
figure (Four n) = n

-- the field's number, and what it holds
abbrev pub mixed : ℕ → Field → ℕ
mixed before field = added (added before field.number) (figure field.body)

-- The octets are a message, and the checksum is that of its fields, in their order.
pub record ReadsFields (octets : List ℕ) (before checksum : ℕ) : Type 0 where
  pub fields : List Field
  pub is_message : IsMessage octets fields
  pub is : checksum ≡ fold mixed before fields
