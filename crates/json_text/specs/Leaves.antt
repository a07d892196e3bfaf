-- A leaf or a leaf-list as JSON (RFC 7951 5.1, 5.3 and 6).
use Rattle.std.specs.Prelude.{ℕ, List, Bool, false, ◌==◌, map, if◌then◌else◌}
use Rattle.std.specs.Fmt.{decimal, signed_decimal}
use Rattle.serde_json.specs.Data.{Data, null, boolean, number, string, array, unsigned}
use Rattle.serde_json.specs.Find.{of_integer}
use Rattle.serde_json.specs.View.{items_of}
use Rattle.serde_json.specs.Written.{compact_text}
use Rattle.base_kinds.specs.declared.value.Value.{Value}
use Rattle.base_kinds.specs.declared.value.Value as v
use Rattle.base_kinds.specs.declared.schema.Shape.{Shape}
use Rattle.base_kinds.specs.declared.schema.Shape.TheVariants as shapes
use Rattle.base_kinds.specs.Texts.{dec_text, base64_text}
use Rattle.base_kinds.specs.Values.{is_list, values_in}

-- integers of 64 bits are written as strings (RFC 7951 6.1)
abbrev pub is_wide : Shape → Bool
is_wide (shapes.Int width) = width == 64
is_wide (shapes.Uint width) = width == 64
is_wide _ = false

-- a scalar: a truth value, a number, or a string, which a decimal is too; a list is no scalar
abbrev pub scalar_data : Shape → Value → Data
scalar_data shape (v.Bool b) = boolean b
scalar_data shape (v.Int z) =
    if is_wide shape then string (signed_decimal z) else number (of_integer z)
scalar_data shape (v.Uint n) = if is_wide shape then string (decimal n) else number (unsigned n)
scalar_data shape (v.Dec digits places) = string (dec_text digits places)
scalar_data shape (v.Text text) = string text
scalar_data shape (v.Bin octets) = string (base64_text octets)
scalar_data shape (v.Enum text) = string text
scalar_data shape (v.List' n values) = null

-- a leaf-list is the array of its values (RFC 7951 5.3)
abbrev pub leaf_data : Shape → Value → Data
leaf_data shape value =
    if is_list value then array (items_of (map (scalar_data shape) (values_in value)))
    else scalar_data shape value

-- the text of a leaf or a leaf-list
abbrev pub leaf_text : Shape → Value → List ℕ
leaf_text shape value = compact_text (leaf_data shape value)
