-- The one JSON value that the rows at and below a path are (RFC 7951 4 and 5, gNMI 2.3.1).
use Rattle.std.specs.Prelude.{ℕ, zero, suc, ◌-◌, ◌==◌, List, [], ◌∷◌, ◌++◌, length, map, fold, Bool, true, false, Option, Some, None, option_and_then, if◌then◌else◌}
use Rattle.std.specs.Str.{bytes_eq}
use Rattle.serde_json.specs.Data.{Data, null, array, object, Members, no_members, put}
use Rattle.serde_json.specs.View.{items_of}
use Rattle.serde_json.specs.Written.{compact_text}
use Rattle.base_kinds.specs.declared.path.Elem.{Elem}
use Rattle.base_kinds.specs.declared.operation.Row.{Row}
use Rattle.base_kinds.specs.declared.schema.Shape.{Shape}
use Rattle.base_kinds.specs.declared.schema.Sort.{Sort}
use Rattle.base_kinds.specs.declared.schema.Sort.TheVariants as sorts
use Rattle.base_kinds.specs.Limits.{most_elements}
use Rattle.base_kinds.specs.Schema.{SchemaNode, names_of, node_of, node_at}
use Rattle.base_kinds.specs.Ancestors.{own_name}
use Rattle.json_text.specs.Leaves.{leaf_data}
use Rattle.json_text.specs.Runs.{runs, share_name, share_entry, first_elem}

-- MODULE:NAME (RFC 7951 4)
abbrev pub full_name : SchemaNode → List ℕ
full_name node = node.module_name ++ 58 ∷ own_name node.names

-- this is the module above
abbrev pub is_module : Option (List ℕ) → List ℕ → Bool
is_module None module_name = false
is_module (Some above) module_name = bytes_eq above module_name

-- A member has its node's name, with the module where that isn't the module above. Above the first level of a value
-- there is none (RFC 7951 4).
abbrev pub member_name : Option (List ℕ) → SchemaNode → List ℕ
member_name above node =
    if is_module above node.module_name then own_name node.names else full_name node

-- the value of the first row, which is all that stands at a leaf or a leaf-list
abbrev pub value_data : Option Shape → List Row → Data
value_data (Some shape) (row ∷ rows) = leaf_data shape row.value
value_data _ _ = null

-- the entries of a list: an array of objects in the order of the rows (RFC 7951 5.4)
abbrev pub entries_data : (List Row → Members) → ℕ → List Row → Data
entries_data inside depth rows =
    array (items_of (map (λ entry. object (inside entry)) (runs (share_entry depth) rows)))

-- the value of a node whose element is at this depth, given the members of an object at it
abbrev pub node_data : (List Row → Members) → Sort → Option Shape → ℕ → List Row → Data
node_data inside sorts.Container shape depth rows = object (inside rows)
node_data inside sorts.List shape depth rows = entries_data inside depth rows
node_data inside sorts.Leaf shape depth rows = value_data shape rows
node_data inside sorts.LeafList shape depth rows = value_data shape rows

-- the node right below these names that the first row stands at or below
abbrev pub child_of_rows : List SchemaNode → List (List ℕ) → ℕ → List Row → Option SchemaNode
child_of_rows schema names depth rows =
    option_and_then (λ elem. node_of schema (names ++ elem.name ∷ [])) (first_elem depth rows)

-- with the member of rows that share their name at this depth; rows that stand at no node have none
abbrev pub with_member :
    (SchemaNode → List Row → Members) → Option (List ℕ) → ℕ → List Row → Option SchemaNode → Members
    → Members
with_member inside above depth rows None members = members
with_member inside above depth rows (Some node) members =
    put (member_name above node) (node_data (inside node) node.sort node.shape depth rows) members

-- The members of an object: one for each name that the rows have at this depth, in the order of the written names'
-- octets. The object is that of the node with these names, whose module is the one above, unless the object is a whole
-- value. So many levels are written: with those of the longest path nothing is left out.
unfoldable pub members_data :
    ℕ → List SchemaNode → Option (List ℕ) → List (List ℕ) → ℕ → List Row → Members
members_data zero schema above names depth rows = no_members
members_data (suc levels) schema above names depth rows =
    fold (λ members run.
    with_member (λ node. members_data levels schema (Some node.module_name) node.names (suc depth))
    above depth run (child_of_rows schema names depth run) members)
    no_members (runs (share_name depth) rows)

-- the last element has no keys, so that it names no single entry of a list
abbrev pub ends_plain : List Elem → Bool
ends_plain [] = true
ends_plain (elem ∷ []) = length elem.keys == 0
ends_plain (elem ∷ other ∷ others) = ends_plain (other ∷ others)

-- the value at the path of this node
abbrev pub value_at_node : (List Row → Members) → Option SchemaNode → List Elem → List Row → Data
value_at_node inside None path rows = null
value_at_node inside (Some node) path rows =
    if ends_plain path then node_data inside node.sort node.shape (length path - 1) rows
    else object (inside rows)

-- The value of the rows at a path: an object at the root, at a container and at an entry of a list, the array of all
-- entries at a list without its keys, and the value itself at a leaf or a leaf-list. Where no node is there is `null`.
abbrev pub json_data : List SchemaNode → List Elem → List Row → Data
json_data schema [] rows = object (members_data most_elements schema None [] 0 rows)
json_data schema (elem ∷ elems) rows =
    value_at_node
    (members_data most_elements schema None (names_of (elem ∷ elems)) (length (elem ∷ elems)))
    (node_at schema (elem ∷ elems)) (elem ∷ elems) rows

-- its text, with no white space
abbrev pub json_text_of : List SchemaNode → List Elem → List Row → List ℕ
json_text_of schema path rows = compact_text (json_data schema path rows)
