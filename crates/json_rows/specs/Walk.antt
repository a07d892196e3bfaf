-- The rows that a JSON value gives at a node (RFC 7951 5.1 to 5.4), in the order of a walk: members in
-- the order of their octets, the items of arrays in their own, and the members of each object before
-- what follows it. The first fault decides.
--
-- The functions here carry the rows so far, as a body does. What makes them believable is the law
-- valid_trees_read_back of json_text: the JSON that is written of a valid tree means just its rows.
use Rattle.std.specs.Prelude.{ℕ, List, [], ◌∷◌, ◌++◌, Option, Some, None, Result, Ok, Err}
use Rattle.serde_json.specs.Data.{Data, array, object, Items, no_items, item, Members, no_members, member}
use Rattle.base_kinds.specs.declared.path.Elem.{Elem}
use Rattle.base_kinds.specs.declared.operation.Row.{Row}
use Rattle.base_kinds.specs.declared.value.Value.{Value}
use Rattle.base_kinds.specs.declared.value.Value.TheVariants as values
use Rattle.base_kinds.specs.declared.schema.Sort.{Sort}
use Rattle.base_kinds.specs.declared.schema.Sort.TheVariants as sorts
use Rattle.base_kinds.specs.Schema.{SchemaNode, names_of}
use Rattle.json_rows.specs.declared.fault.RowsFault.{RowsFault}
use Rattle.json_rows.specs.declared.fault.RowsFault.TheVariants.{BadValue}
use Rattle.json_rows.specs.Leaves.{leaf_at, values_from}
use Rattle.json_rows.specs.Members.{fresh_child, name_in}
use Rattle.base_lists.specs.Results.{and_then}
use Rattle.json_rows.specs.Entries.{KeyList, keys_of_entry, keys_unless_seen}

-- the rows so far and those of the value, or the first fault
abbrev pub RowsOrFault : Type 0
RowsOrFault = Result (List Row) RowsFault

-- a path with one more element
abbrev pub below : List Elem → List ℕ → KeyList → List Elem
below above name keys = above ++ record { name = name; keys = keys } ∷ []

abbrev pub rows_with_row : List Elem → List Row → Value → List Row
rows_with_row here rows value = rows ++ record { path = here; value = value } ∷ []

-- a leaf is a row
abbrev pub rows_with_leaf : List Elem → List Row → Option Value → RowsOrFault
rows_with_leaf here rows None = Err BadValue
rows_with_leaf here rows (Some value) = Ok (rows_with_row here rows value)

-- a leaf-list is a row, and none where it has no values
abbrev pub rows_with_leaf_list : List Elem → List Row → Option (List Value) → RowsOrFault
rows_with_leaf_list here rows None = Err BadValue
rows_with_leaf_list here rows (Some []) = Ok rows
rows_with_leaf_list here rows (Some (value ∷ others)) =
    Ok (rows_with_row here rows (values.List (value ∷ others)))

abbrev mutual
  -- at a node of this sort: its name and the path above it
  pub rows_at_node :
      Sort → List SchemaNode → SchemaNode → List Elem → List ℕ → List Row → Data → RowsOrFault
  rows_at_node sorts.Container schema node above name rows (object members) =
      rows_of_members schema (below above name []) [] rows members
  rows_at_node sorts.List schema node above name rows (array items) =
      rows_of_entries schema node above name [] rows items
  rows_at_node sorts.LeafList schema node above name rows (array items) =
      rows_with_leaf_list (below above name []) rows (values_from node.shape [] items)
  rows_at_node sorts.Leaf schema node above name rows json =
      rows_with_leaf (below above name []) rows (leaf_at node.shape json)
  rows_at_node _ schema node above name rows json = Err BadValue

  -- the members of an object at the path, behind members that named the children seen
  pub rows_of_members :
      List SchemaNode → List Elem → List (List ℕ) → List Row → Members → RowsOrFault
  rows_of_members schema here seen rows no_members = Ok rows
  rows_of_members schema here seen rows (member text json others) =
      and_then (fresh_child schema (names_of here) seen text) (λ child.
      and_then (rows_at_node child.sort schema child here (name_in text) rows json) (λ more.
      rows_of_members schema here (seen ++ name_in text ∷ []) more others))

  -- the entries of a list, behind entries that had the keys seen
  pub rows_of_entries :
      List SchemaNode → SchemaNode → List Elem → List ℕ → List KeyList → List Row → Items
      → RowsOrFault
  rows_of_entries schema node above name seen rows no_items = Ok rows
  rows_of_entries schema node above name seen rows (item json others) =
      and_then (and_then (keys_of_entry schema (names_of above ++ name ∷ []) json [] node.keys)
      (keys_unless_seen seen)) (λ keys.
      and_then (rows_of_object schema (below above name keys) rows json) (λ more.
      rows_of_entries schema node above name (seen ++ keys ∷ []) more others))

  -- an object at the path of a list's entry, or of the root
  pub rows_of_object : List SchemaNode → List Elem → List Row → Data → RowsOrFault
  rows_of_object schema here rows (object members) = rows_of_members schema here [] rows members
  rows_of_object schema here rows _ = Err BadValue
