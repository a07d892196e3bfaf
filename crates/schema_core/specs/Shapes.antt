-- The shapes of leaves: which can be declared, and which are equal. The forms are this project's own, for types of RFC
-- 7950 9.2 to 9.6 and 9.8.
use Rattle.std.specs.Prelude.{ℕ, List, [], ◌∷◌, Bool, true, false, not, ◌&&◌, ◌||◌, ◌==◌, nat_le, length, Option, Some, None}
use Rattle.std.specs.List.{list_all, list_any}
use Rattle.std.specs.Str.{bytes_eq}
use Rattle.base_kinds.specs.Schema.{same_names}
use Rattle.base_kinds.specs.declared.schema.Shape.{Shape}
use Rattle.base_kinds.specs.declared.schema.Shape.TheVariants as shapes
use Rattle.plain_texts.specs.Names.{is_in_name}

-- as in a name, or `:`
abbrev pub is_in_enum : ℕ → Bool
is_in_enum octet = is_in_name octet || octet == 58

-- a text of an enum: one or more letters, digits, `_`, `.`, `-` and `:`
abbrev pub is_enum_text : List ℕ → Bool
is_enum_text [] = false
is_enum_text (octet ∷ octets) = list_all is_in_enum (octet ∷ octets)

-- no two of the texts are equal
abbrev pub texts_differ : List (List ℕ) → Bool
texts_differ [] = true
texts_differ (text ∷ texts) = not (list_any (bytes_eq text) texts) && texts_differ texts

-- an enum has so many texts at most
abbrev pub most_enum_texts : ℕ
most_enum_texts = 256

-- a decimal has so many digits behind its point at most (RFC 7950 9.3.4)
abbrev pub most_places : ℕ
most_places = 18

-- how many bits an integer has (RFC 7950 9.2)
abbrev pub is_width : ℕ → Bool
is_width width = width == 8 || width == 16 || width == 32 || width == 64

-- a shape that a line can declare
abbrev pub is_fit_shape : Shape → Bool
is_fit_shape shapes.Bool = true
is_fit_shape (shapes.Int width) = is_width width
is_fit_shape (shapes.Uint width) = is_width width
is_fit_shape (shapes.Dec places) = nat_le 1 places && nat_le places most_places
is_fit_shape shapes.Text = true
is_fit_shape shapes.Bin = true
is_fit_shape (shapes.Enum texts) =
    nat_le 1 (length texts) && nat_le (length texts) most_enum_texts && list_all is_enum_text texts
    && texts_differ texts

-- equal shapes: those of enums have the same texts in the same order
abbrev pub same_shape : Shape → Shape → Bool
same_shape shapes.Bool shapes.Bool = true
same_shape (shapes.Int width) (shapes.Int other) = width == other
same_shape (shapes.Uint width) (shapes.Uint other) = width == other
same_shape (shapes.Dec places) (shapes.Dec other) = places == other
same_shape shapes.Text shapes.Text = true
same_shape shapes.Bin shapes.Bin = true
same_shape (shapes.Enum texts) (shapes.Enum others) = same_names texts others
same_shape _ _ = false

abbrev pub same_shapes : Option Shape → Option Shape → Bool
same_shapes None None = true
same_shapes (Some shape) (Some other) = same_shape shape other
same_shapes _ _ = false
