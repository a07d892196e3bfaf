-- gnmi.proto's TypedValue, Decimal64 and ScalarArray.
use Rattle.std.specs.Prelude.{ℕ, ◌%◌, ◌^◌, List, [], ◌∷◌, ◌++◌, not, ◌&&◌, ◌==◌, nat_lt, Option, Some, None, unwrap_or, if◌then◌else◌}
use Rattle.std.specs.Option.{option_map, option_map_or}
use Rattle.std.specs.Int.{w64, cast_signed}
use Rattle.base_lists.specs.Options.{◌>>=◌}
use Rattle.base_kinds.specs.declared.request.Given.{Given}
use Rattle.base_kinds.specs.declared.request.Given.TheVariants as given
use Rattle.base_kinds.specs.declared.value.Value.{Value}
use Rattle.base_kinds.specs.declared.value.Value.TheVariants as values
use Rattle.pb_wire.specs.declared.field.Field.{Field}
use Rattle.pb_wire.specs.Values.{last_scalar, last_octets, joined_octets, one_of}
use Rattle.gnmi_data_msg.specs.Numbers.{string_val, int_val, uint_val, bool_val, bytes_val, float_val, decimal_val, leaflist_val, any_val, json_val, json_ietf_val, ascii_val, proto_bytes, double_val, decimal_digits, decimal_precision, array_element}
use Rattle.gnmi_data_msg.specs.Parts.{fields_in, messages_in, each, are_texts, text_of}

-- the members of the oneof, each with its wire type
abbrev pub members : List (ℕ × ℕ)
members =
    (string_val, 2) ∷ (int_val, 0) ∷ (uint_val, 0) ∷ (bool_val, 0) ∷ (bytes_val, 2) ∷ (float_val, 5)
    ∷ (decimal_val, 2) ∷ (leaflist_val, 2) ∷ (any_val, 2) ∷ (json_val, 2) ∷ (json_ietf_val, 2)
    ∷ (ascii_val, 2) ∷ (proto_bytes, 2) ∷ (double_val, 1) ∷ []

-- A precision is a uint32, of which a longer varint gives the low 32 bits (protobuf.dev, "Language Guide (proto 3)",
-- "Updating A Message Type"). Above 255 it is taken as 255, which no schema has.
abbrev pub precision_of : ℕ → ℕ
precision_of n = if nat_lt 255 (n % 2 ^ 32) then 255 else n % 2 ^ 32

-- the decimal that the octets of a Decimal64 are
unfoldable pub decimal_of : List ℕ → Option Value
decimal_of octets = do
  fields ← fields_in octets
  Some (values.Dec (cast_signed w64 (unwrap_or (last_scalar decimal_digits fields) 0))
      (precision_of (unwrap_or (last_scalar decimal_precision fields) 0)))

-- The number or truth value of a run of one member's fields, if it is one of these. An int64 is in two's complement.
unfoldable pub number_in : List Field → Option Value
number_in run =
    option_map_or (λ n. Some (values.Int (cast_signed w64 n))) (last_scalar int_val run)
    (option_map_or (λ n. Some (values.Uint n)) (last_scalar uint_val run)
    (option_map_or (λ n. Some (values.Bool (not (n == 0)))) (last_scalar bool_val run)
    None))

-- the scalar of such a run, if it holds one that a leaf can have; the occurrences of a decimal are joined
unfoldable pub scalar_in : List ℕ → List Field → Option (Option Value)
scalar_in message run =
    option_map_or (λ octets. option_map (λ text. Some (values.Text text)) (text_of octets))
    (last_octets message string_val run)
    (option_map_or (λ octets. Some (Some (values.Bin octets))) (last_octets message bytes_val run)
    (option_map_or (λ octets. option_map Some (decimal_of (joined_octets message decimal_val run)))
    (last_octets message decimal_val run)
    (Some (number_in run))))

-- the fields of a TypedValue, whose strings are UTF-8
unfoldable pub typed_fields : List ℕ → Option (List Field)
typed_fields octets = do
  fields ← fields_in octets
  if are_texts octets string_val fields && are_texts octets ascii_val fields
      then Some fields
      else None

-- an element of a ScalarArray is a TypedValue, of which scalars alone count
unfoldable pub element_of : List ℕ → Option (Option Value)
element_of octets = do
  fields ← typed_fields octets
  scalar_in octets (one_of members fields)

-- the scalars and one more, where all are scalars
abbrev pub with_last : Option (List Value) → Option Value → Option (List Value)
with_last scalars element = do
  some ← scalars
  scalar ← element
  Some (some ++ scalar ∷ [])

-- the scalars of the elements, where all are scalars
abbrev pub scalars_of : List (Option Value) → Option (List Value)
scalars_of elements = each (λ element. element) elements

-- a list of scalars, or else a missing value
abbrev pub list_given : Option (List Value) → Given
list_given (Some scalars) = given.Scalar (values.List scalars)
list_given None = given.Missing

-- the list that the octets of a ScalarArray are
unfoldable pub list_of : List ℕ → Option Given
list_of octets = do
  fields ← fields_in octets
  scalars ← option_map scalars_of (messages_in element_of octets array_element fields)
  Some (list_given scalars)

abbrev pub scalar_given : Option Value → Given
scalar_given (Some scalar) = given.Scalar scalar
scalar_given None = given.Missing

-- what a run of one member's fields gives: JSON, a list or a scalar; the other members are read as a missing value
unfoldable pub given_in : List ℕ → List Field → Option Given
given_in message run =
    option_map_or (λ octets. Some (given.Json octets)) (last_octets message json_val run)
    (option_map_or (λ octets. Some (given.Json octets)) (last_octets message json_ietf_val run)
    (option_map_or (λ octets. list_of (joined_octets message leaflist_val run))
    (last_octets message leaflist_val run)
    (option_map scalar_given (scalar_in message run))))

-- The value that the octets of a TypedValue are: that of the oneof's last member, with its occurrences directly before
-- (protobuf.dev, "Language Guide (proto 3)", "Oneof Features"). Of the members before them only the strings are looked at.
unfoldable pub typed_of : List ℕ → Option Given
typed_of octets = do
  fields ← typed_fields octets
  given_in octets (one_of members fields)
