-- The octets in which paths and values are written: fields by rising number, keys in the order in which the path has them, and
-- outside the oneof no empty string and no number 0 (protobuf.dev, "Language Guide (proto 3)", "Default Field Values").
use Rattle.std.specs.Prelude.{ℕ, ℤ, zero, suc, List, [], ◌∷◌, ◌++◌, Bool, true, false, if◌then◌else◌}
use Rattle.std.specs.List.{flat_map}
use Rattle.std.specs.Int.{w64, cast_unsigned}
use Rattle.base_kinds.specs.declared.path.Elem.{Elem}
use Rattle.base_kinds.specs.declared.value.Value.{Value}
use Rattle.base_kinds.specs.declared.value.Value as v
use Rattle.base_kinds.specs.Values.{is_list, values_in}
use Rattle.pb_wire.specs.Values.{map_key, map_value}
use Rattle.pb_wire.specs.Writing.{varint_field, octets_field}
use Rattle.gnmi_kinds.specs.declared.path.GnmiPath.{GnmiPath}
use Rattle.gnmi_data_msg.specs.Numbers.{path_origin, path_elem, path_target, elem_name, elem_key, string_val, int_val, uint_val, bool_val, bytes_val, decimal_val, leaflist_val, decimal_digits, decimal_precision, array_element}

-- a single string, which isn't written where it is empty
abbrev pub text_field : ℕ → List ℕ → List ℕ
text_field number [] = []
text_field number (octet ∷ octets) = octets_field number (octet ∷ octets)

-- the messages of a repeated field
abbrev pub message_fields : {A : Type 0} → (A → List ℕ) → ℕ → List A → List ℕ
message_fields octets_of number items =
    flat_map (λ item. octets_field number (octets_of item)) items

abbrev pub entry_message : List ℕ × List ℕ → List ℕ
entry_message entry = text_field map_key entry.0 ++ text_field map_value entry.1

abbrev pub elem_message : Elem → List ℕ
elem_message elem = text_field elem_name elem.name
    ++ message_fields entry_message elem_key elem.keys

abbrev pub path_message : List Elem → List ℕ
path_message path = message_fields elem_message path_elem path

-- a path with its origin and its target, as it was read; the deprecated field `element` isn't written
abbrev pub whole_path_message : GnmiPath → List ℕ
whole_path_message path =
    text_field path_origin path.origin ++ path_message path.path
    ++ text_field path_target path.target

-- a path that has a target alone, as the prefix of a notification
abbrev pub target_message : List ℕ → List ℕ
target_message target = text_field path_target target

-- a single number, which isn't written where it is 0
abbrev pub number_field : ℕ → ℕ → List ℕ
number_field number zero = []
number_field number (suc n) = varint_field number (suc n)

-- a Decimal64
abbrev pub decimal_message : ℤ → ℕ → List ℕ
decimal_message digits places =
    number_field decimal_digits (cast_unsigned w64 digits) ++ number_field decimal_precision places

abbrev pub bit_of : Bool → ℕ
bit_of false = 0
bit_of true = 1

-- a TypedValue with the scalar of a leaf, which is written whatever it is; a list is none
abbrev pub scalar_message : Value → List ℕ
scalar_message (v.Bool b) = varint_field bool_val (bit_of b)
scalar_message (v.Int number) = varint_field int_val (cast_unsigned w64 number)
scalar_message (v.Uint number) = varint_field uint_val number
scalar_message (v.Dec digits places) = octets_field decimal_val (decimal_message digits places)
scalar_message (v.Text text) = octets_field string_val text
scalar_message (v.Bin octets) = octets_field bytes_val octets
scalar_message (v.Enum text) = octets_field string_val text
scalar_message (v.List' n values) = []

-- a TypedValue with the value of a leaf or a leaf-list (gNMI 2.3.3)
abbrev pub value_message : Value → List ℕ
value_message value =
    if is_list value
    then octets_field leaflist_val (message_fields scalar_message array_element (values_in value))
    else scalar_message value
