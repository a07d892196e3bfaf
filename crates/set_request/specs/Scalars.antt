-- Which value of a shape a scalar stands for (gNMI 2.2.3, RFC 7950 9).
use Rattle.std.specs.Prelude.{ℕ, ◌^◌, ℤ, false, List, [], ◌∷◌, ◌++◌, nat_lt, Option, Some, None, option_and_then, if◌then◌else◌}
use Rattle.std.specs.List.{list_any}
use Rattle.std.specs.Option.{option_map}
use Rattle.std.specs.Str.{bytes_eq}
use Rattle.base_kinds.specs.declared.value.Value.{Value}
use Rattle.base_kinds.specs.declared.value.Value as v
use Rattle.base_kinds.specs.declared.value.Value.TheVariants as values
use Rattle.base_kinds.specs.declared.schema.Shape.{Shape}
use Rattle.base_kinds.specs.declared.schema.Shape.TheVariants as shapes
use Rattle.base_kinds.specs.Values.{fits_signed, has_shape}
use Rattle.value_core.specs.Decimals.{with_sign}
use Rattle.set_request.specs.Numbers.{is_negative, magnitude, natural, rescaled_digits}

-- the equal decimal with so many places, without rounding
abbrev pub decimal_with : ℕ → ℤ → ℕ → Option Value
decimal_with places digits others =
    option_map (λ number. values.Dec number places)
    (option_and_then (with_sign (is_negative digits))
    (rescaled_digits (magnitude digits) others places))

-- The value of a leaf of this shape that the scalar stands for: integers by value, decimals by value, a text also for
-- an enum.
abbrev pub value_in_shape : Shape → Value → Option Value
value_in_shape (shapes.Int width) (v.Uint number) =
    option_and_then (λ n. if fits_signed width n then Some (values.Int n) else None)
    (with_sign false number)
value_in_shape (shapes.Uint width) (v.Int number) =
    option_and_then (λ n. if nat_lt n (2 ^ width) then Some (values.Uint n) else None)
    (natural number)
value_in_shape (shapes.Dec places) (v.Dec digits others) = decimal_with places digits others
value_in_shape (shapes.Enum texts) (v.Text text) =
    if list_any (bytes_eq text) texts then Some (values.Enum text) else None
value_in_shape shape value = if has_shape shape value then Some value else None

-- the values of a leaf-list of this shape, behind those before them
abbrev pub values_in_shape : Shape → List Value → List Value → Option (List Value)
values_in_shape shape done [] = Some done
values_in_shape shape done (value ∷ others) =
    option_and_then (λ w. values_in_shape shape (done ++ w ∷ []) others)
    (value_in_shape shape value)
