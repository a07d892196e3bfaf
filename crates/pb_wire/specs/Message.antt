-- The fields of a message (protobuf.dev, "Encoding", "Message Structure").
use Rattle.std.specs.Prelude.{All, ◌≡◌, ℕ, ◌+◌, ◌*◌, ◌^◌, ◌<◌, ◌≤◌, List, [], ◌∷◌, ◌++◌, length, drop, slice_range}
use Rattle.std.specs.Int.{w32, w64, from_le_bytes}
use Rattle.pb_wire.specs.declared.field.Body.{Body}
use Rattle.pb_wire.specs.declared.field.Body.TheVariants.{Varint, Eight, Octets, Four}
use Rattle.pb_wire.specs.declared.field.Field.{Field}
use Rattle.pb_wire.specs.Varint.{IsVarint}

abbrev pub wire_type : Body → ℕ
wire_type (Varint n) = 0
wire_type (Eight n) = 1
wire_type (Octets from to) = 2
wire_type (Four n) = 5

abbrev pub IsNumber : ℕ → Type 0
IsNumber number = (1 ≤ number) × (number < 2 ^ 29)

-- These octets, the first of which stands at this place of the message, are a length and as many octets.
pub record IsDelimited (place : ℕ) (octets : List ℕ) (from to : ℕ) : Type 0 where
  pub len : List ℕ
  pub content : List ℕ
  pub parts : octets ≡ len ++ content
  pub is_len : IsVarint len (length content)
  pub first : from ≡ place + length len
  pub last : to ≡ from + length content

-- These octets, the first of which stands at this place of the message, are what follows the tag of such a field.
abbrev pub IsBody : ℕ → List ℕ → Body → Type 0
IsBody place octets (Varint n) = IsVarint octets n
IsBody place octets (Eight n) = (length octets ≡ 8) × (n ≡ from_le_bytes w64 octets)
IsBody place octets (Octets from to) = IsDelimited place octets from to
IsBody place octets (Four n) = (length octets ≡ 4) × (n ≡ from_le_bytes w32 octets)

-- A tag, which is the number times 8 plus the wire type, and the body.
pub record IsField (place : ℕ) (octets : List ℕ) (field : Field) : Type 0 where
  pub tag : List ℕ
  pub body : List ℕ
  pub parts : octets ≡ tag ++ body
  pub is_tag : IsVarint tag (field.number * 8 + wire_type field.body)
  pub is_number : IsNumber field.number
  pub is_body : IsBody (place + length tag) body field.body

-- These octets, the first of which stands at this place of the message, are the fields one after another.
abbrev pub AreFields : ℕ → List ℕ → List Field → Type 0
AreFields place octets [] = octets ≡ []
AreFields place octets (field ∷ fields) =
    (front : List ℕ) × (rest : List ℕ) × (octets ≡ front ++ rest) × IsField place front field
    × AreFields (place + length front) rest fields

-- The message's octets are these fields. Places are counted from the message's first octet.
pub record IsMessage (octets : List ℕ) (fields : List Field) : Type 0 where
  pub are_fields : AreFields 0 octets fields

-- A field's octets are in the message.
abbrev pub IsWithin : ℕ → Body → Type 0
IsWithin len (Octets from to) = (from ≤ to) × (to ≤ len)
IsWithin len (Varint n) = Unit {0}
IsWithin len (Eight n) = Unit {0}
IsWithin len (Four n) = Unit {0}

abbrev pub AreWithin : List ℕ → List Field → Type 0
AreWithin octets fields = All (λ field. IsWithin (length octets) field.body) fields

-- The octets from a place of the message on are these fields.
abbrev pub FieldsFrom : List ℕ → ℕ → List Field → Type 0
FieldsFrom octets place fields = AreFields place (drop place octets) fields

-- A field stands at a place of the message, and ends before the next one.
pub record IsNextField (octets : List ℕ) (place : ℕ) (field : Field) (next : ℕ) : Type 0 where
  pub later : place < next
  pub within : next ≤ length octets
  pub is_field : IsField place (slice_range octets place next) field
