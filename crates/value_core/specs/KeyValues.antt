-- The value whose key text a text is (gNMI path conventions 2.2.1, RFC 7951 6). That it is the one that IsKeyOf speaks of
-- is the law KeysByFunction.
use Rattle.std.specs.Prelude.{ℕ, List, Bool, ◌&&◌, Option, Some, None, option_map, option_and_then, codes, if◌then◌else◌}
use Rattle.std.specs.Str.{bytes_eq}
use Rattle.base_kinds.specs.declared.value.Value.{Value}
use Rattle.base_kinds.specs.declared.value.Value.TheVariants as values
use Rattle.base_kinds.specs.declared.schema.Shape.{Shape}
use Rattle.base_kinds.specs.declared.schema.Shape.TheVariants as shapes
use Rattle.base_kinds.specs.Keys.{key_text}
use Rattle.base_kinds.specs.Legal.{is_fit_scalar}
use Rattle.base_kinds.specs.Values.{has_shape}
use Rattle.plain_texts.specs.Numbers.{natural_of}
use Rattle.value_core.specs.Base64.{octets_of}
use Rattle.value_core.specs.Decimals.{decimal_of}
use Rattle.value_core.specs.Integers.{integer_of}
use Rattle.value_core.specs.KeyTexts.{is_stored}

-- the only value of this shape whose key text this may be: a key text is one of the forms that are read
abbrev pub value_read : Shape → List ℕ → Option Value
value_read shapes.Bool text = Some (values.Bool (bytes_eq text (codes "true")))
value_read (shapes.Int width) text = option_map values.Int (integer_of text)
value_read (shapes.Uint width) text = option_map values.Uint (natural_of text)
value_read (shapes.Dec places) text =
    option_map (λ digits. values.Dec digits places) (decimal_of places text)
value_read shapes.Text text = Some (values.Text text)
value_read shapes.Bin text = option_map values.Bin (octets_of text)
value_read (shapes.Enum texts) text = Some (values.Enum text)

-- the value is one of a leaf of this shape, and this is its key text
abbrev pub is_key_of : Shape → List ℕ → Value → Bool
is_key_of shape text value =
    is_stored value && is_fit_scalar value && has_shape shape value
    && bytes_eq text (key_text value)

abbrev pub if_key_of : Shape → List ℕ → Value → Option Value
if_key_of shape text value = if is_key_of shape text value then Some value else None

-- the value of this shape whose key text this is
unfoldable pub key_value : Shape → List ℕ → Option Value
key_value shape text = option_and_then (if_key_of shape text) (value_read shape text)
