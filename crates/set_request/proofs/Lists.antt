-- What is said of a value, at a list of values.
use Rattle.std.proofs.Common.{◌≡◌, List, [], Option, ap, refl, ◌∙◌}
use Rattle.std.specs.List.{list_all}
use Rattle.base_kinds.specs.declared.path.Elem.{Elem}
use Rattle.base_kinds.specs.declared.operation.Row.{Row}
use Rattle.base_kinds.specs.declared.schema.Shape.{Shape}
use Rattle.base_kinds.specs.declared.value.Value.{Value}
use Rattle.base_kinds.specs.declared.value.Value.TheVariants as values
use Rattle.base_kinds.specs.Legal.{is_fit_scalar, is_fit_value}
use Rattle.base_kinds.specs.Values.{values_in}
use Rattle.base_kinds.proofs.Lists.{values_in-List}
use Rattle.std.specs.Option.{option_and_then}
use Rattle.set_request.specs.Scalars.{values_in_shape}
use Rattle.set_request.specs.ValueRows.{row_of_distinct, rows_of_leaf_list}

fit_in : (vs : List Value) → is_fit_value (values.List vs) ≡ list_all is_fit_scalar (values_in (values.List vs))
unfolding Rattle.base_kinds.specs.declared.value.Value.TheBlock.hidden-the_row-Value-0 denote.Hole.Carrier.hidden
fit_in vs = refl

pub fit_list : (vs : List Value) → is_fit_value (values.List vs) ≡ list_all is_fit_scalar vs
fit_list vs = fit_in vs ∙ ap (list_all is_fit_scalar) (values_in-List vs)

-- what the values of a leaf-list give
abbrev pub rows_of_distinct : Shape → List Elem → List Value → Option (List Row)
rows_of_distinct shape path vs = option_and_then (row_of_distinct path) (values_in_shape shape [] vs)

list_given_in : (shape : Shape) (path : List Elem) (vs : List Value) → rows_of_leaf_list shape path (values.List vs) ≡ rows_of_distinct shape path (values_in (values.List vs))
unfolding Rattle.base_kinds.specs.declared.value.Value.TheBlock.hidden-the_row-Value-0 denote.Hole.Carrier.hidden
list_given_in shape path vs = refl

pub list_given : (shape : Shape) (path : List Elem) (vs : List Value) → rows_of_leaf_list shape path (values.List vs) ≡ rows_of_distinct shape path vs
list_given shape path vs = list_given_in shape path vs ∙ ap (rows_of_distinct shape path) (values_in-List vs)
