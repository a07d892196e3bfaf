-- The rows that a JSON text means at a path of a schema (RFC 7951 4 to 6, gNMI 2.3.1).
use Rattle.std.specs.Prelude.{◌≡◌, ℕ, ◌-◌, List, [], ◌∷◌, Bool, true, false, length, take, slice_get, if◌then◌else◌, Option, Some, None, Ok, Err}
use Rattle.std.specs.Str.{is_utf8}
use Rattle.serde_json.specs.Data.{Data}
use Rattle.serde_json.specs.Read.{read}
use Rattle.base_kinds.specs.declared.path.Elem.{Elem}
use Rattle.base_kinds.specs.declared.operation.Row.{Row}
use Rattle.base_kinds.specs.declared.schema.Sort.{Sort}
use Rattle.base_kinds.specs.declared.schema.Sort.TheVariants as sorts
use Rattle.base_kinds.specs.Schema.{SchemaNode, names_of, node_at}
use Rattle.base_kinds.specs.Tree.{set_rows}
use Rattle.json_rows.specs.declared.fault.RowsFault.{RowsFault}
use Rattle.json_rows.specs.declared.fault.RowsFault.TheVariants.{NotInSchema, BadValue}
use Rattle.base_lists.specs.Results.{and_then}
use Rattle.json_rows.specs.Entries.{KeyList, entry_keys_agree}
use Rattle.json_rows.specs.Walk.{RowsOrFault, rows_at_node, rows_of_object}

-- what a text is as JSON: UTF-8 that serde_json reads
abbrev pub data_of : List ℕ → Option Data
data_of text = if is_utf8 text then read text else None

-- a list's element with keys is an entry of it
abbrev pub is_entry : Sort → KeyList → Bool
is_entry sorts.List [] = false
is_entry sorts.List (key ∷ keys) = true
is_entry _ keys = false

-- an entry whose path has its keys
abbrev pub rows_of_entry : List SchemaNode → SchemaNode → List Elem → KeyList → Data → RowsOrFault
rows_of_entry schema node path keys json =
    and_then (entry_keys_agree schema (names_of path) keys json node.keys)
    (λ same. rows_of_object schema path [] json)

-- at the node of a path that ends in this element
abbrev pub rows_at_last_elem : List SchemaNode → SchemaNode → List Elem → Elem → Data → RowsOrFault
rows_at_last_elem schema node path last json =
    if is_entry node.sort last.keys then rows_of_entry schema node path last.keys json
    else rows_at_node node.sort schema node (take (length path - 1) path) last.name [] json

abbrev pub rows_at_node_of_path :
    List SchemaNode → List Elem → Elem → Option SchemaNode → Option Data → RowsOrFault
rows_at_node_of_path schema path last None json = Err NotInSchema
rows_at_node_of_path schema path last (Some node) None = Err BadValue
rows_at_node_of_path schema path last (Some node) (Some json) =
    rows_at_last_elem schema node path last json

-- the root is a container, and is no node
abbrev pub rows_at_path : List SchemaNode → List Elem → Option Elem → Option Data → RowsOrFault
rows_at_path schema path None None = Err BadValue
rows_at_path schema path None (Some json) = rows_of_object schema path [] json
rows_at_path schema path (Some last) json =
    rows_at_node_of_path schema path last (node_at schema path) json

-- the rows at a path in the order of the walk
abbrev pub rows_of_walk : List SchemaNode → List Elem → Option Data → RowsOrFault
rows_of_walk schema path json = rows_at_path schema path (slice_get path (length path - 1)) json

-- the same rows, rising by path
abbrev pub rows_by_path : List Row → RowsOrFault
rows_by_path rows = Ok (set_rows rows [])

abbrev pub rows_of_data : List SchemaNode → List Elem → Option Data → RowsOrFault
rows_of_data schema path json = and_then (rows_of_walk schema path json) rows_by_path

-- the rows that a text means at a path, or the first fault
abbrev pub rows_of : List SchemaNode → List Elem → List ℕ → RowsOrFault
rows_of schema path text = rows_of_data schema path (data_of text)

-- the value means these rows there
abbrev pub JsonRows : List SchemaNode → List Elem → Data → List Row → Type 0
JsonRows schema path value rows = rows_of_data schema path (Some value) ≡ Ok rows

-- the value has this fault there
abbrev pub JsonFault : List SchemaNode → List Elem → Data → RowsFault → Type 0
JsonFault schema path value fault = rows_of_data schema path (Some value) ≡ Err fault
