-- The rows that the value of a replace or an update gives at its path (gNMI 2.2.3, RFC 7951).
use Rattle.std.specs.Prelude.{List, [], ◌∷◌, Option, Some, None, Result, Ok, Err, option_and_then, if◌then◌else◌}
use Rattle.std.specs.Option.{option_map, ok_or}
use Rattle.base_kinds.specs.declared.path.Elem.{Elem}
use Rattle.base_kinds.specs.declared.operation.Row.{Row}
use Rattle.base_kinds.specs.declared.value.Value.{Value}
use Rattle.base_kinds.specs.declared.value.Value.TheVariants as values
use Rattle.base_kinds.specs.declared.schema.Shape.{Shape}
use Rattle.base_kinds.specs.declared.schema.Sort.{Sort}
use Rattle.base_kinds.specs.declared.schema.Sort.TheVariants as sorts
use Rattle.base_kinds.specs.declared.request.Given.{Given}
use Rattle.base_kinds.specs.declared.request.Given.TheVariants as given
use Rattle.base_kinds.specs.declared.refusal.Refusal.{Refusal}
use Rattle.base_kinds.specs.declared.refusal.Refusal.TheVariants.{NotInSchema, BadValue, NoMemory}
use Rattle.base_kinds.specs.Schema.{SchemaNode, node_at}
use Rattle.base_kinds.specs.Values.{is_list, values_in, all_differ}
use Rattle.json_rows.specs.declared.fault.RowsFault.{RowsFault}
use Rattle.json_rows.specs.declared.fault.RowsFault.TheVariants as faults
use Rattle.json_rows.specs.Rows.{rows_of}
use Rattle.set_request.specs.Scalars.{value_in_shape, values_in_shape}

abbrev pub row_at : List Elem → Value → List Row
row_at path value = record { path = path; value = value } ∷ []

-- a leaf-list without values has no row
abbrev pub list_row : List Elem → List Value → List Row
list_row path [] = []
list_row path (value ∷ others) = row_at path (values.List (value ∷ others))

abbrev pub row_of_distinct : List Elem → List Value → Option (List Row)
row_of_distinct path kept = if all_differ kept then Some (list_row path kept) else None

-- the values of a leaf-list, no two of which stand for equal ones
abbrev pub rows_of_leaf_list : Shape → List Elem → Value → Option (List Row)
rows_of_leaf_list shape path value =
    if is_list value
    then option_and_then (row_of_distinct path) (values_in_shape shape [] (values_in value))
    else None

-- a scalar stands at a leaf or a leaf-list alone
abbrev pub rows_at_sort : Sort → Shape → List Elem → Value → Option (List Row)
rows_at_sort sorts.Leaf shape path value = option_map (row_at path) (value_in_shape shape value)
rows_at_sort sorts.LeafList shape path value = rows_of_leaf_list shape path value
rows_at_sort _ shape path value = None

abbrev pub rows_of_scalar : Option SchemaNode → List Elem → Value → Option (List Row)
rows_of_scalar node path value =
    option_and_then (λ n.
    option_and_then (λ shape. rows_at_sort n.sort shape path value) n.shape) node

abbrev pub refusal_of : RowsFault → Refusal
refusal_of faults.NotInSchema = NotInSchema
refusal_of faults.BadValue = BadValue
refusal_of faults.NoMemory = NoMemory

abbrev pub rows_of_json : Result (List Row) RowsFault → Result (List Row) Refusal
rows_of_json (Ok rows) = Ok rows
rows_of_json (Err fault) = Err (refusal_of fault)

-- the rows that a value gives
abbrev pub rows_of_value : List SchemaNode → List Elem → Given → Result (List Row) Refusal
rows_of_value schema path (given.Json json) = rows_of_json (rows_of schema path json)
rows_of_value schema path (given.Scalar value) =
    ok_or (rows_of_scalar (node_at schema path) path value) BadValue
rows_of_value schema path given.Missing = Err BadValue
