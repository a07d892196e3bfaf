-- Values of leaves and leaf-lists: the values in a list, equality, and which values a shape has.
use Rattle.std.specs.Prelude.{ℕ, ◌-◌, ◌^◌, ℤ, pos, negsuc, List, [], ◌∷◌, Bool, true, false, not, ◌&&◌, ◌==◌, nat_lt}
use Rattle.std.specs.Bool.{beq}
use Rattle.std.specs.List.{list_any}
use Rattle.std.specs.Str.{bytes_eq}
use Rattle.std.specs.Ordering.{int_eq}
use Rattle.base_kinds.specs.declared.value.Value.{Value, Row_of-Value, end_of-Value, more_of-Value}
use Rattle.base_kinds.specs.declared.value.Value as v
use Rattle.base_kinds.specs.declared.schema.Shape.{Shape}
use Rattle.base_kinds.specs.declared.schema.Shape.TheVariants as shapes

abbrev pub row_values : {n : _} → Row_of-Value n → List Value
row_values end_of-Value = []
row_values (more_of-Value value others) = value ∷ row_values others

abbrev pub is_list : Value → Bool
is_list (v.List' n values) = true
is_list _ = false

-- the values of a leaf-list, in order; a leaf has none
abbrev pub values_in : Value → List Value
values_in (v.List' n values) = row_values values
values_in _ = []

-- two values that are no lists are equal
abbrev pub same_scalar : Value → Value → Bool
same_scalar (v.Bool a) (v.Bool b) = beq a b
same_scalar (v.Int a) (v.Int b) = int_eq a b
same_scalar (v.Uint a) (v.Uint b) = a == b
same_scalar (v.Dec a places) (v.Dec b others) = int_eq a b && places == others
same_scalar (v.Text a) (v.Text b) = bytes_eq a b
same_scalar (v.Bin a) (v.Bin b) = bytes_eq a b
same_scalar (v.Enum a) (v.Enum b) = bytes_eq a b
same_scalar _ _ = false

-- no two of the values are equal
abbrev pub all_differ : List Value → Bool
all_differ [] = true
all_differ (value ∷ values) = not (list_any (same_scalar value) values) && all_differ values

-- a number of two's complement in so many bits
abbrev pub fits_signed : ℕ → ℤ → Bool
fits_signed width (pos number) = nat_lt number (2 ^ (width - 1))
fits_signed width (negsuc number) = nat_lt number (2 ^ (width - 1))

-- the value is one of a leaf of this shape (RFC 7950 9.2 to 9.8): a decimal has just the shape's digits behind the point
abbrev pub has_shape : Shape → Value → Bool
has_shape shapes.Bool (v.Bool b) = true
has_shape (shapes.Int width) (v.Int number) = fits_signed width number
has_shape (shapes.Uint width) (v.Uint number) = nat_lt number (2 ^ width)
has_shape (shapes.Dec places) (v.Dec digits others) = places == others
has_shape shapes.Text (v.Text text) = true
has_shape shapes.Bin (v.Bin octets) = true
has_shape (shapes.Enum texts) (v.Enum text) = list_any (bytes_eq text) texts
has_shape _ _ = false
