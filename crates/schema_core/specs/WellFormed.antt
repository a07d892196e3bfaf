-- What a schema that was read from a text always has (RFC 7950 4.2.2, 6.2, 6.2.1, 7.6.5, 7.7.5, 7.8.2 and 9.9; the
-- limits are this project's own).
use Rattle.std.specs.Prelude.{◌≡◌, ◌≤◌, ℕ, List, [], ◌∷◌, ◌++◌, Bool, true, false, ◌&&◌, nat_le, length, Option, Some, None, is_some}
use Rattle.std.specs.List.{AllByRecursion, list_all}
use Rattle.std.specs.Str.{bytes_eq}
use Rattle.base_kinds.specs.declared.schema.Shape.{Shape}
use Rattle.base_kinds.specs.declared.schema.Sort.{Sort}
use Rattle.base_kinds.specs.declared.schema.Sort.TheVariants as sorts
use Rattle.base_kinds.specs.Schema.{SchemaNode, node_of}
use Rattle.base_kinds.specs.Limits.{most_maximum}
use Rattle.base_kinds.specs.Valid.{if_some, unless_none, is_leafy}
use Rattle.plain_texts.specs.Names.{is_name}
use Rattle.schema_core.specs.Nodes.{AllPlaced}
use Rattle.schema_core.specs.Shapes.{texts_differ, is_fit_shape, same_shapes}

abbrev pub is_leaf : Sort → Bool
is_leaf sorts.Leaf = true
is_leaf _ = false

abbrev pub is_list_sort : Sort → Bool
is_list_sort sorts.List = true
is_list_sort _ = false

abbrev pub is_list_node : SchemaNode → Bool
is_list_node node = is_list_sort node.sort

-- lists and leaf-lists may have a maximum (RFC 7950 7.7.6)
abbrev pub may_have_maximum : Sort → Bool
may_have_maximum sorts.List = true
may_have_maximum sorts.LeafList = true
may_have_maximum _ = false

-- so many names lead from the root to a node at most
abbrev pub most_names : ℕ
most_names = 32

-- so many keys has a list at most
abbrev pub most_keys : ℕ
most_keys = 8

abbrev pub is_fit_maximum : ℕ → Bool
is_fit_maximum maximum = nat_le 1 maximum && nat_le maximum most_maximum

-- the schema has a leaf with these names
abbrev pub has_leaf : List SchemaNode → List (List ℕ) → Bool
has_leaf schema names = if_some (node_of schema names) (λ node. is_leaf node.sort)

-- the key has a leaf right below its list, in the list's module
abbrev pub has_key_leaf : List SchemaNode → SchemaNode → List ℕ → Bool
has_key_leaf schema entries key =
    if_some (node_of schema (entries.names ++ key ∷ []))
    (λ node. is_leaf node.sort && bytes_eq node.module_name entries.module_name)

-- no reference, or one to a leaf of equal shape (RFC 7950 9.9)
abbrev pub has_target : List SchemaNode → Option Shape → Option (List (List ℕ)) → Bool
has_target schema shape None = true
has_target schema shape (Some names) =
    if_some (node_of schema names) (λ node. is_leaf node.sort && same_shapes shape node.shape)

-- A node. Its names and its module's are NAMEs. A list has 1 to 8 keys, no key twice, and of each a leaf right below it
-- in its module; other nodes have no keys (RFC 7950 7.8.2). Leaves and leaf-lists alone have a shape, leaves alone are
-- mandatory or refer to a leaf, which has an equal shape, and lists and leaf-lists alone have a maximum.
pub record IsWellFormedNode (schema : List SchemaNode) (node : SchemaNode) : Type 0 where
  pub few_names : length node.names ≤ most_names
  pub names : list_all is_name node.names ≡ true
  pub module_name : is_name node.module_name ≡ true
  pub keyless : is_list_node node ≡ false → node.keys ≡ []
  pub keyed : is_list_node node ≡ true → node.keys ≡ [] → ⊥
  pub few_keys : length node.keys ≤ most_keys
  pub keys_differ : texts_differ node.keys ≡ true
  pub key_leaves : list_all (has_key_leaf schema node) node.keys ≡ true
  pub shaped : is_some node.shape ≡ is_leafy node.sort
  pub shape : unless_none node.shape is_fit_shape ≡ true
  pub optional : is_leaf node.sort ≡ false → node.is_mandatory ≡ false
  pub unreferring : is_leaf node.sort ≡ false → node.reference ≡ None
  pub reference : has_target schema node.shape node.reference ≡ true
  pub unlimited : may_have_maximum node.sort ≡ false → node.maximum ≡ None
  pub maximum : unless_none node.maximum is_fit_maximum ≡ true

-- No names stand twice. A node stands right below the root or below a container or a list, and the root is no node (RFC
-- 7950 4.2.2 and 6.2.1).
pub record IsWellFormed (schema : List SchemaNode) : Type 0 where
  pub placed : AllPlaced schema
  pub nodes : AllByRecursion (IsWellFormedNode schema) schema
