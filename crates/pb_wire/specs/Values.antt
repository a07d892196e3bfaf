-- What a list of fields holds under a number (protobuf.dev, "Encoding", "Last One Wins" and "Maps", and "Language Guide
-- (proto 3)", "Oneof Features").
-- A field with another wire type than is asked for is skipped, as an unknown one is.
use Rattle.std.specs.Prelude.{ℕ, Bool, List, [], ◌∷◌, map, filter, Option, Some, None, unwrap_or, nat_eq, ◌==◌, ◌&&◌, if◌then◌else◌, slice_range}
use Rattle.std.specs.List.{filter_map, list_any, list_all, concat, last_or}
use Rattle.std.specs.Cmp.Lexicographic.{pointwise}
use Rattle.pb_wire.specs.declared.field.Body.{Body}
use Rattle.pb_wire.specs.declared.field.Body.TheVariants.{Varint, Eight, Octets, Four}
use Rattle.pb_wire.specs.declared.field.Field.{Field}
use Rattle.pb_wire.specs.Message.{wire_type}

abbrev pub number_of_body : Body → Option ℕ
number_of_body (Varint n) = Some n
number_of_body (Eight n) = None
number_of_body (Octets from to) = None
number_of_body (Four n) = None

abbrev pub octets_of_body : List ℕ → Body → Option (List ℕ)
octets_of_body message (Varint n) = None
octets_of_body message (Eight n) = None
octets_of_body message (Octets from to) = Some (slice_range message from to)
octets_of_body message (Four n) = None

abbrev pub varint_in : ℕ → Field → Option ℕ
varint_in number field = if field.number == number then number_of_body field.body else None

abbrev pub octets_in : List ℕ → ℕ → Field → Option (List ℕ)
octets_in message number field =
    if field.number == number then octets_of_body message field.body else None

-- each varint of the number, in order
abbrev pub varints : ℕ → List Field → List ℕ
varints number fields = filter_map (varint_in number) fields

-- each occurrence of octets of the number, in order: the list of a repeated field
abbrev pub occurrences : List ℕ → ℕ → List Field → List (List ℕ)
occurrences message number fields = filter_map (octets_in message number) fields

-- a single scalar is the last one
abbrev pub last_scalar : ℕ → List Field → Option ℕ
last_scalar number fields = last_or None (varints number fields)

-- a single string or `bytes` is the last one
abbrev pub last_octets : List ℕ → ℕ → List Field → Option (List ℕ)
last_octets message number fields = last_or None (occurrences message number fields)

-- the occurrences of a single message are joined
abbrev pub joined_octets : List ℕ → ℕ → List Field → List ℕ
joined_octets message number fields = concat (occurrences message number fields)

-- the longest end of the list whose fields have one number
abbrev pub last_run : List Field → List Field
last_run [] = []
last_run (field ∷ fields) =
    if list_all (λ (other : Field). other.number == field.number) fields then field ∷ fields
    else last_run fields

-- A oneof's members are given by their numbers and wire types. It holds the last one, with its occurrences directly
-- before: a message is joined from these alone, and of a scalar the last counts.
abbrev pub has_member : List (ℕ × ℕ) → ℕ → ℕ → Bool
has_member members number kind =
    list_any (λ (member : ℕ × ℕ). (member.0 == number) && (member.1 == kind)) members

abbrev pub is_member : List (ℕ × ℕ) → Field → Bool
is_member members field = has_member members field.number (wire_type field.body)

abbrev pub one_of : List (ℕ × ℕ) → List Field → List Field
one_of members fields = last_run (filter (is_member members) fields)

-- the field numbers of a map's entry
abbrev pub map_key : ℕ
map_key = 1

abbrev pub map_value : ℕ
map_value = 2

-- A map's entry is a message with a key and a value, here texts. What is absent is empty.
abbrev pub entry_of : List ℕ → List Field → List ℕ × List ℕ
entry_of entry fields = (
  unwrap_or (last_octets entry map_key fields) [],
  unwrap_or (last_octets entry map_value fields) [],
)

abbrev pub has_key : {V : Type 0} → List ℕ → List ℕ × V → Bool
has_key key entry = pointwise nat_eq key entry.0

-- of each key the last entry
abbrev pub last_entries : {V : Type 0} → List (List ℕ × V) → List (List ℕ × V)
last_entries [] = []
last_entries (entry ∷ entries) =
    if list_any (has_key entry.0) entries then last_entries entries
    else entry ∷ last_entries entries

abbrev pub value_of_key : {V : Type 0} → List ℕ → List (List ℕ × V) → Option V
value_of_key {V} key entries =
    last_or None (map (λ (entry : List ℕ × V). entry.1) (filter (has_key key) entries))
