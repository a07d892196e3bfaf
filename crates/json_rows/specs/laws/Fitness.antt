-- The rows of a JSON text may stand in an operation, where the schema was read from a text.
use Rattle.std.specs.Prelude.{◌≡◌, ℕ, List, Ok, IsTrue}
use Rattle.std.specs.List.{list_all}
use Rattle.base_kinds.specs.declared.path.Elem.{Elem}
use Rattle.base_kinds.specs.declared.operation.Row.{Row}
use Rattle.base_kinds.specs.Legal.{is_fit_path, is_fit_row}
use Rattle.base_kinds.specs.Schema.{SchemaNode}
use Rattle.schema_core.specs.WellFormed.{IsWellFormed}
use Rattle.json_rows.specs.Rows.{rows_of}

-- the rows have short paths whose keys rise, and decimals with 1 to 18 places
abbrev pub RowsAreFit : Type 0
RowsAreFit =
    (schema : List SchemaNode) (path : List Elem) (text : List ℕ) (rows : List Row)
    → IsWellFormed schema → IsTrue (is_fit_path path) → rows_of schema path text ≡ Ok rows
    → IsTrue (list_all is_fit_row rows)
