-- The value that a JSON value means at a leaf of a shape (RFC 7951 6).
use Rattle.std.specs.Prelude.{◌==◌, List, [], ◌∷◌, ◌++◌, if◌then◌else◌, Option, Some, None, option_map, option_and_then}
use Rattle.std.specs.List.{list_any}
use Rattle.std.specs.Fmt.{signed_decimal}
use Rattle.serde_json.specs.Data.{Data, boolean, number, string, Items, no_items, item}
use Rattle.serde_json.specs.Find.{as_i64, as_u64}
use Rattle.base_kinds.specs.declared.schema.Shape.{Shape}
use Rattle.base_kinds.specs.declared.schema.Shape.TheVariants as shapes
use Rattle.base_kinds.specs.declared.value.Value.{Value}
use Rattle.base_kinds.specs.declared.value.Value.TheVariants as values
use Rattle.base_kinds.specs.Values.{has_shape, same_scalar}
use Rattle.plain_texts.specs.Numbers.{natural_of}
use Rattle.value_core.specs.Base64.{octets_of}
use Rattle.value_core.specs.Decimals.{decimal_of}
use Rattle.value_core.specs.Integers.{integer_of}

-- What the data would mean, before its range or the listed texts are looked at. An integer is a number that is one of 64
-- bits, and at 64 bits also the string of its decimal text. At a decimal an integer stands for its own text.
abbrev pub value_of_data : Shape → Data → Option Value
value_of_data shapes.Bool (boolean is) = Some (values.Bool is)
value_of_data (shapes.Int width) (number n) = option_map values.Int (as_i64 n)
value_of_data (shapes.Int width) (string text) =
    if width == 64 then option_map values.Int (integer_of text) else None
value_of_data (shapes.Uint width) (number n) = option_map values.Uint (as_u64 n)
value_of_data (shapes.Uint width) (string text) =
    if width == 64 then option_map values.Uint (natural_of text) else None
value_of_data (shapes.Dec places) (number n) =
    option_map (λ digits. values.Dec digits places)
    (option_and_then (λ z. decimal_of places (signed_decimal z)) (as_i64 n))
value_of_data (shapes.Dec places) (string text) =
    option_map (λ digits. values.Dec digits places) (decimal_of places text)
value_of_data shapes.Text (string text) = Some (values.Text text)
value_of_data shapes.Bin (string text) = option_map values.Bin (octets_of text)
value_of_data (shapes.Enum texts) (string text) = Some (values.Enum text)
value_of_data _ _ = None

abbrev pub if_shaped : Shape → Value → Option Value
if_shaped shape value = if has_shape shape value then Some value else None

-- the value of the shape that the data means
abbrev pub leaf_of : Shape → Data → Option Value
leaf_of shape json = option_and_then (if_shaped shape) (value_of_data shape json)

-- the same at a node, which has a shape where it is a leaf or a leaf-list
abbrev pub leaf_at : Option Shape → Data → Option Value
leaf_at None json = None
leaf_at (Some shape) json = leaf_of shape json

abbrev pub unless_listed : List Value → Value → Option Value
unless_listed done value = if list_any (same_scalar value) done then None else Some value

-- the values of a leaf-list after those so far, none equal to another
abbrev pub values_from : Option Shape → List Value → Items → Option (List Value)
values_from shape done no_items = Some done
values_from shape done (item json others) =
    option_and_then (λ value. values_from shape (done ++ value ∷ []) others)
    (option_and_then (unless_listed done) (leaf_at shape json))
