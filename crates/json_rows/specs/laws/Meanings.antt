-- What holds of the rows that JSON values mean.
use Rattle.std.specs.Prelude.{◌≡◌, ◌⊎◌, ℕ, List, Ok, Err, IsTrue}
use Rattle.std.specs.List.Sorted.{IsPermutation}
use Rattle.serde_json.specs.Data.{Data}
use Rattle.base_kinds.specs.declared.path.Elem.{Elem}
use Rattle.base_kinds.specs.declared.operation.Row.{Row}
use Rattle.base_lists.specs.Rising.{rises}
use Rattle.base_kinds.specs.Schema.{SchemaNode}
use Rattle.base_kinds.specs.Rising.{IsRising, row_cmp}
use Rattle.json_rows.specs.declared.fault.RowsFault.{RowsFault}
use Rattle.json_rows.specs.declared.fault.RowsFault.TheVariants.{NotInSchema, BadValue}
use Rattle.json_rows.specs.Rows.{JsonRows, JsonFault, rows_by_path, rows_of}

-- a value means rows at a path, or has a fault there
abbrev pub MeansOrFails : Type 0
MeansOrFails =
    (schema : List SchemaNode) (path : List Elem) (value : Data)
    → ((rows : List Row) × JsonRows schema path value rows)
    ⊎ ((fault : RowsFault) × JsonFault schema path value fault)

-- it means no other rows
abbrev pub MeansOneList : Type 0
MeansOneList =
    (schema : List SchemaNode) (path : List Elem) (value : Data) (rows others : List Row)
    → JsonRows schema path value rows → JsonRows schema path value others → rows ≡ others

-- a text is refused for the sake of the schema or of the value alone: a definition wants no memory
abbrev pub FaultsAreTwo : Type 0
FaultsAreTwo =
    (schema : List SchemaNode) (path : List Elem) (text : List ℕ) (fault : RowsFault)
    → rows_of schema path text ≡ Err fault → (fault ≡ NotInSchema) ⊎ (fault ≡ BadValue)

-- and it doesn't do both
abbrev pub MeansOrFailsAlone : Type 0
MeansOrFailsAlone =
    (schema : List SchemaNode) (path : List Elem) (value : Data) (rows : List Row)
    (fault : RowsFault) → JsonRows schema path value rows → JsonFault schema path value fault → ⊥

-- the rows of a text rise by path, so that no path stands twice
abbrev pub RowsRise : Type 0
RowsRise =
    (schema : List SchemaNode) (path : List Elem) (text : List ℕ) (rows : List Row)
    → rows_of schema path text ≡ Ok rows → IsTrue (rises row_cmp rows)

-- rows that rise are what the same rows in any order give
abbrev pub OrderIsFree : Type 0
OrderIsFree =
    (unordered rows : List Row) → IsPermutation unordered rows → IsRising rows
    → rows_by_path unordered ≡ Ok rows
