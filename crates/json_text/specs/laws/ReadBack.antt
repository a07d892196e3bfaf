-- What is written is read as itself.
use Rattle.std.specs.Prelude.{◌≡◌, List, [], ◌∷◌, ◌++◌, false, true, Some, Ok, map}
use Rattle.std.specs.List.{AllByRecursion, list_all}
use Rattle.serde_json.specs.Data.{object, no_members}
use Rattle.serde_json.specs.View.{items_of}
use Rattle.base_kinds.specs.declared.value.Value.{Value}
use Rattle.base_kinds.specs.declared.schema.Shape.{Shape}
use Rattle.base_kinds.specs.declared.path.Elem.{Elem}
use Rattle.base_kinds.specs.declared.operation.Row.{Row}
use Rattle.base_kinds.specs.Schema.{SchemaNode, node_at}
use Rattle.base_kinds.specs.Valid.{is_leafy, has_key_leaf, row_has_type}
use Rattle.schema_core.specs.WellFormed.{IsWellFormed}
use Rattle.base_kinds.specs.Values.{all_differ}
use Rattle.json_rows.specs.Leaves.{leaf_of, values_from}
use Rattle.json_rows.specs.Rows.{rows_of_data}
use Rattle.json_text.specs.Trees.{ends_plain, json_data}
use Rattle.json_text.specs.Leaves.{scalar_data}
use Rattle.base_kinds.specs.declared.schema.Sort.TheVariants as sorts
use Rattle.json_text.specs.laws.Rows.{IsScalarOf, IsWhole, IsPart}

-- the JSON of these rows, at this path, means just these rows
abbrev pub ReadsBack : List SchemaNode → List Elem → List Row → Type 0
ReadsBack schema path rows = rows_of_data schema path (Some (json_data schema path rows)) ≡ Ok rows

-- the JSON of a whole tree means its rows
abbrev pub TreesReadBack : Type 0
TreesReadBack =
    (schema : List SchemaNode) (rows : List Row)
    → IsWellFormed schema → IsPart schema [] rows → ReadsBack schema [] rows

-- the JSON at the path of a container means the rows below it
abbrev pub ContainersReadBack : Type 0
ContainersReadBack =
    (schema : List SchemaNode) (elem : Elem) (elems : List Elem) (node : SchemaNode)
    (rows : List Row)
    → IsWellFormed schema → node_at schema (elem ∷ elems) ≡ Some node
    → node.sort ≡ sorts.Container → ends_plain (elem ∷ elems) ≡ true
    → IsPart schema (elem ∷ elems) rows → ReadsBack schema (elem ∷ elems) rows

-- The JSON at the path of a list's entry means the rows below it, its own key leaves among them. Their
-- key texts are its keys.
abbrev pub EntriesReadBack : Type 0
EntriesReadBack =
    (schema : List SchemaNode) (above : List Elem) (entry : Elem) (node : SchemaNode)
    (rows : List Row)
    → IsWellFormed schema → node_at schema (above ++ entry ∷ []) ≡ Some node
    → node.sort ≡ sorts.List → ends_plain (above ++ entry ∷ []) ≡ false
    → IsPart schema (above ++ entry ∷ []) rows
    → list_all (has_key_leaf rows (above ++ entry ∷ [])) entry.keys ≡ true
    → ReadsBack schema (above ++ entry ∷ []) rows

-- the JSON at the path of an entry without rows is an empty object, and means no rows
abbrev pub NoEntriesReadBack : Type 0
NoEntriesReadBack =
    (schema : List SchemaNode) (above : List Elem) (entry : Elem) (node : SchemaNode)
    → IsWellFormed schema → node_at schema (above ++ entry ∷ []) ≡ Some node
    → node.sort ≡ sorts.List → ends_plain (above ++ entry ∷ []) ≡ false
    → (json_data schema (above ++ entry ∷ []) [] ≡ object no_members)
    × ReadsBack schema (above ++ entry ∷ []) []

-- the JSON at the path of a leaf or a leaf-list means its row
abbrev pub ScalarsReadBack : Type 0
ScalarsReadBack =
    (schema : List SchemaNode) (elem : Elem) (elems : List Elem) (node : SchemaNode) (row : Row)
    → IsWellFormed schema → node_at schema (elem ∷ elems) ≡ Some node
    → is_leafy node.sort ≡ true → ends_plain (elem ∷ elems) ≡ true
    → row.path ≡ elem ∷ elems → row_has_type schema row ≡ true → IsWhole row.value
    → ReadsBack schema (elem ∷ elems) (row ∷ [])

-- a leaf's JSON means its value
abbrev pub LeavesReadBack : Type 0
LeavesReadBack =
    (shape : Shape) (value : Value)
    → IsScalarOf shape value → leaf_of shape (scalar_data shape value) ≡ Some value

-- a leaf-list's JSON means its values, where no two are equal
abbrev pub LeafListsReadBack : Type 0
LeafListsReadBack =
    (shape : Shape) (vs : List Value)
    → AllByRecursion (IsScalarOf shape) vs → all_differ vs ≡ true
    → values_from (Some shape) [] (items_of (map (scalar_data shape) vs)) ≡ Some vs
