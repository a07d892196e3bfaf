-- Values that are written are read back.
use Rattle.std.proofs.Common.{◌≡◌, ℕ, suc, ◌+◌, ◌%◌, ◌^◌, ◌<◌, Bool, true, false, List, [], ◌∷◌, length, Some, refl, ap, ◌∙◌, arith, append-nil, lit≤}
use Rattle.std.specs.Prelude.{ℤ, map, FitsSigned}
use Rattle.std.specs.List.{AllByRecursion}
use Rattle.std.specs.Option.{option_map}
use Rattle.std.specs.Int.{w64, cast_unsigned}
use Rattle.std.specs.Str.{is_utf8}
use Rattle.std.proofs.lemmas.Bool.{le-ltb}
use Rattle.std.proofs.lemmas.Int.{to_z-of_z}
use Rattle.std.proofs.lemmas.List.{length-append}
use Rattle.std.proofs.Math.Facts.{Fits-of_z}
use Rattle.std.proofs.Math.Nat.{mod-eq_of_lt}
use Rattle.base_kinds.specs.declared.request.Given.{Given}
use Rattle.base_kinds.specs.declared.request.Given.TheVariants as given
use Rattle.base_kinds.specs.declared.value.Value.{Value}
use Rattle.base_kinds.specs.declared.value.Value as v
use Rattle.base_kinds.specs.declared.value.Value.TheVariants as values
use Rattle.base_kinds.specs.Values.{values_in}
use Rattle.pb_wire.specs.declared.field.Body.TheVariants.{Varint}
use Rattle.pb_wire.specs.declared.field.Field.{Field}
use Rattle.pb_wire.specs.Varint.{shortest}
use Rattle.pb_wire.specs.Writing.{varint_field, octets_field, octets_body}
use Rattle.pb_wire.specs.Values.{occurrences, one_of}
use Rattle.pb_wire.proofs.ValueLaws.{occurrences-written}
use Rattle.pb_wire.proofs.WritingLemmas.{IsMessage-varint, IsMessage-octets}
use Rattle.gnmi_data_msg.specs.Numbers.{string_val, int_val, uint_val, bool_val, bytes_val, decimal_val, leaflist_val, json_val, json_ietf_val, ascii_val, decimal_digits, decimal_precision, array_element}
use Rattle.gnmi_data_msg.specs.Parts.{fields_in, each, messages_in, are_texts}
use Rattle.gnmi_data_msg.specs.TypedValues.{members, precision_of, decimal_of, number_in, scalar_in, typed_fields, element_of, scalars_of, list_of, scalar_given, given_in, typed_of}
use Rattle.gnmi_data_msg.specs.ReadBack.{IsShortText, IsWritableScalar, IsWritableList, read_scalar}
use Rattle.gnmi_data_msg.specs.Writing.{message_fields, decimal_message, bit_of, scalar_message, value_message}
use Rattle.gnmi_data_msg.proofs.FieldsIn.{is_read}
use Rattle.gnmi_data_msg.proofs.ReadBack.{messages_there, items_short}
use Rattle.gnmi_data_msg.proofs.Single.{pair_there, last_number}

-- octets that are read as a scalar, alone and in a list
record Reads (message : List ℕ) (value : Value) : Type 0 where
  element : element_of message ≡ Some (Some value)
  typed : typed_of message ≡ Some (given.Scalar value)

-- a message of one field that holds a scalar
one_scalar : (message : List ℕ) (field : Field) (value : Value) → fields_in message ≡ Some (field ∷ [])
    → are_texts message string_val (field ∷ []) ≡ true → are_texts message ascii_val (field ∷ []) ≡ true
    → one_of members (field ∷ []) ≡ field ∷ []
    → given_in message (field ∷ []) ≡ option_map scalar_given (scalar_in message (field ∷ []))
    → scalar_in message (field ∷ []) ≡ Some (Some value) → Reads message value
unfolding typed_fields element_of typed_of
one_scalar message field value fields string ascii run plain scalar = record {
  element = rw (fields, string, ascii, run, scalar) refl;
  typed = rw (fields, string, ascii, run, plain, scalar) refl;
}

-- ---- numbers

int_reads : (z : ℤ) → FitsSigned w64 z → Reads (varint_field int_val (cast_unsigned w64 z)) (values.Int z)
unfolding scalar_in given_in number_in
int_reads z fit =
    one_scalar (varint_field int_val (cast_unsigned w64 z)) (record { number = int_val; body = Varint (cast_unsigned w64 z) }) (values.Int z)
    (is_read _ _ (IsMessage-varint int_val (cast_unsigned w64 z) (lit≤ tt) (lit≤ tt) (Fits-of_z fit).fits)) refl refl refl refl
    (rw (to_z-of_z w64 z fit) refl)

uint_reads : (n : ℕ) → n < 2 ^ 64 → Reads (varint_field uint_val n) (values.Uint n)
unfolding scalar_in given_in number_in
uint_reads n fit =
    one_scalar (varint_field uint_val n) (record { number = uint_val; body = Varint n }) (values.Uint n)
    (is_read _ _ (IsMessage-varint uint_val n (lit≤ tt) (lit≤ tt) fit)) refl refl refl refl refl

bool_reads : (b : Bool) → Reads (varint_field bool_val (bit_of b)) (values.Bool b)
unfolding scalar_in given_in number_in
bool_reads true =
    one_scalar (varint_field bool_val 1) (record { number = bool_val; body = Varint 1 }) (values.Bool true)
    (is_read _ _ (IsMessage-varint bool_val 1 (lit≤ tt) (lit≤ tt) (lit≤ tt))) refl refl refl refl refl
bool_reads false =
    one_scalar (varint_field bool_val 0) (record { number = bool_val; body = Varint 0 }) (values.Bool false)
    (is_read _ _ (IsMessage-varint bool_val 0 (lit≤ tt) (lit≤ tt) (lit≤ tt))) refl refl refl refl refl

-- ---- octets

abbrev held_octets : ℕ → List ℕ → Field
held_octets number octets = record { number = number; body = octets_body octets }

texts_held : (message : List ℕ) (fields : List Field) (text : List ℕ) → occurrences message string_val fields ≡ text ∷ [] → is_utf8 text ≡ true → are_texts message string_val fields ≡ true
texts_held message fields text e is = rw (e, is) refl

text_held : (message : List ℕ) (fields : List Field) (text : List ℕ) → occurrences message string_val fields ≡ text ∷ [] → is_utf8 text ≡ true → scalar_in message fields ≡ Some (Some (values.Text text))
unfolding scalar_in
text_held message fields text e is = rw (e, is) refl

text_reads : (text : List ℕ) → IsShortText text → Reads (octets_field string_val text) (values.Text text)
unfolding given_in
text_reads text is =
    let message : List ℕ = octets_field string_val text in
    let field : Field = held_octets string_val text in
    let there : occurrences message string_val (field ∷ []) ≡ text ∷ [] = occurrences-written string_val text in
    one_scalar message field (values.Text text)
    (is_read _ _ (IsMessage-octets string_val text (lit≤ tt) (lit≤ tt) is.short))
    (texts_held message (field ∷ []) text there is.is_text) refl refl refl (text_held message (field ∷ []) text there is.is_text)

bytes_held : (message : List ℕ) (fields : List Field) (octets : List ℕ) → occurrences message string_val fields ≡ [] → occurrences message bytes_val fields ≡ octets ∷ []
    → scalar_in message fields ≡ Some (Some (values.Bin octets))
unfolding scalar_in
bytes_held message fields octets none e = rw (none, e) refl

decimal_held : (message : List ℕ) (fields : List Field) (octets : List ℕ) (decimal : Value) → occurrences message string_val fields ≡ [] → occurrences message bytes_val fields ≡ []
    → occurrences message decimal_val fields ≡ octets ∷ [] → decimal_of octets ≡ Some decimal → scalar_in message fields ≡ Some (Some decimal)
unfolding scalar_in
decimal_held message fields octets decimal no_text no_bytes e is = rw (no_text, no_bytes, e, append-nil octets, is) refl

list_held : (message : List ℕ) (fields : List Field) (octets : List ℕ) (list : Given) → occurrences message json_val fields ≡ [] → occurrences message json_ietf_val fields ≡ []
    → occurrences message leaflist_val fields ≡ octets ∷ [] → list_of octets ≡ Some list → given_in message fields ≡ Some list
unfolding given_in
list_held message fields octets list no_json no_ietf e is = rw (no_json, no_ietf, e, append-nil octets, is) refl

bytes_read : (octets : List ℕ) → length octets < 2 ^ 64 → Reads (octets_field bytes_val octets) (values.Bin octets)
unfolding given_in
bytes_read octets short =
    let message : List ℕ = octets_field bytes_val octets in
    let field : Field = held_octets bytes_val octets in
    one_scalar message field (values.Bin octets)
    (is_read _ _ (IsMessage-octets bytes_val octets (lit≤ tt) (lit≤ tt) short))
    refl refl refl refl (bytes_held message (field ∷ []) octets refl (occurrences-written bytes_val octets))

-- ---- decimals

places_back : (places : ℕ) → places < 2 ^ 8 → precision_of places ≡ places
places_back places few =
    let low : places % 2 ^ 32 ≡ places = mod-eq_of_lt (omega (arith, few)) in
    rw (low, le-ltb 255 places (omega (arith, few))) refl

digits_read : (digits : ℤ) (places : ℕ) → FitsSigned w64 digits → places < 2 ^ 8 → decimal_of (decimal_message digits places) ≡ Some (values.Dec digits places)
unfolding decimal_of fields_in
digits_read digits places fit few =
    let pair = pair_there decimal_digits decimal_precision (cast_unsigned w64 digits) places (lit≤ tt) (lit≤ tt) (lit≤ tt) (lit≤ tt) refl refl (Fits-of_z fit).fits (omega (arith, few)) in
    rw (pair.passes, pair.first_is, pair.second_is, last_number (cast_unsigned w64 digits), last_number places, to_z-of_z w64 digits fit, places_back places few) refl

decimal_short : (digits : ℤ) (places : ℕ) → FitsSigned w64 digits → places < 2 ^ 8 → length (decimal_message digits places) < 2 ^ 64
decimal_short digits places fit few =
    let pair = pair_there decimal_digits decimal_precision (cast_unsigned w64 digits) places (lit≤ tt) (lit≤ tt) (lit≤ tt) (lit≤ tt) refl refl (Fits-of_z fit).fits (omega (arith, few)) in
    omega (arith, pair.short)

decimal_reads : (digits : ℤ) (places : ℕ) → FitsSigned w64 digits → places < 2 ^ 8 → Reads (octets_field decimal_val (decimal_message digits places)) (values.Dec digits places)
unfolding given_in
decimal_reads digits places fit few =
    let octets : List ℕ = decimal_message digits places in
    let message : List ℕ = octets_field decimal_val octets in
    let field : Field = held_octets decimal_val octets in
    one_scalar message field (values.Dec digits places)
    (is_read _ _ (IsMessage-octets decimal_val octets (lit≤ tt) (lit≤ tt) (decimal_short digits places fit few)))
    refl refl refl refl
    (decimal_held message (field ∷ []) octets (values.Dec digits places) refl refl (occurrences-written decimal_val octets) (digits_read digits places fit few))

-- ---- scalars

scalar_reads : (value : Value) → IsWritableScalar value → Reads (scalar_message value) (read_scalar value)
scalar_reads (v.Bool b) is = bool_reads b
scalar_reads (v.Int number) is = int_reads number is
scalar_reads (v.Uint number) is = uint_reads number is
scalar_reads (v.Dec digits places) is = decimal_reads digits places is.0 is.1
scalar_reads (v.Text text) is = text_reads text is
scalar_reads (v.Bin octets) is = bytes_read octets is
scalar_reads (v.Enum text) is = text_reads text is
scalar_reads (v.List' n items) is = absurd is

pub scalar_read : (value : Value) → IsWritableScalar value → typed_of (value_message value) ≡ Some (given.Scalar (read_scalar value))
scalar_read (v.Bool b) is = (bool_reads b).typed
scalar_read (v.Int number) is = (int_reads number is).typed
scalar_read (v.Uint number) is = (uint_reads number is).typed
scalar_read (v.Dec digits places) is = (decimal_reads digits places is.0 is.1).typed
scalar_read (v.Text text) is = (text_reads text is).typed
scalar_read (v.Bin octets) is = (bytes_read octets is).typed
scalar_read (v.Enum text) is = (text_reads text is).typed
scalar_read (v.List' n items) is = absurd is

-- ---- leaf-lists

elements_read : (items : List Value) → AllByRecursion IsWritableScalar items → each element_of (map scalar_message items) ≡ Some (map (λ item. Some (read_scalar item)) items)
elements_read [] all = refl
elements_read (item ∷ items) all = rw ((scalar_reads item all.0).element, elements_read items all.1) refl

all_scalars : (items : List Value) → scalars_of (map (λ item. Some (read_scalar item)) items) ≡ Some (map read_scalar items)
all_scalars [] = refl
all_scalars (item ∷ items) = rw (all_scalars items) refl

array_read : (items : List Value) → AllByRecursion IsWritableScalar items → length (message_fields scalar_message array_element items) < 2 ^ 64
    → list_of (message_fields scalar_message array_element items) ≡ Some (given.Scalar (values.List (map read_scalar items)))
unfolding list_of
array_read items all short =
    let there = messages_there scalar_message array_element items (lit≤ tt) (lit≤ tt) (items_short scalar_message array_element items short) in
    let elements : messages_in element_of (message_fields scalar_message array_element items) array_element there.fields ≡ Some (map (λ item. Some (read_scalar item)) items) =
    ap (each element_of) (there.holds array_element) ∙ elements_read items all in
    rw (is_read _ there.fields there.is, elements, all_scalars items) refl

pub list_read : (value : Value) → IsWritableList value → typed_of (value_message value) ≡ Some (given.Scalar (values.List (map read_scalar (values_in value))))
unfolding typed_of typed_fields
list_read value is =
    let octets : List ℕ = message_fields scalar_message array_element (values_in value) in
    let message : List ℕ = octets_field leaflist_val octets in
    let field : Field = held_octets leaflist_val octets in
    let written : value_message value ≡ message = rw (is.is) refl in
    let own : length message ≡ suc (length (shortest (length octets)) + length octets) = ap suc (length-append (shortest (length octets)) octets) in
    let short : length octets < 2 ^ 64 = omega (arith, is.short, ap length written, own) in
    let held : given_in message (field ∷ []) ≡ Some (given.Scalar (values.List (map read_scalar (values_in value)))) =
    list_held message (field ∷ []) octets _ refl refl (occurrences-written leaflist_val octets) (array_read (values_in value) is.scalars short) in
    let read : typed_of message ≡ Some (given.Scalar (values.List (map read_scalar (values_in value)))) =
    rw (is_read message (field ∷ []) (IsMessage-octets leaflist_val octets (lit≤ tt) (lit≤ tt) short), held) refl in
    ap typed_of written ∙ read
