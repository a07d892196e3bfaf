-- What every schema keeps of its nodes: no names stand twice, and a node's parent stands before it (RFC 7950 4.2.2, 6.2.1).
use Rattle.std.specs.Prelude.{◌≡◌, ℕ, List, [], ◌∷◌, Bool, false, true, Option, Some, None, IsTrue, slice_get, unwrap_or, take}
use Rattle.std.specs.Option.{option_map}
use Rattle.base_kinds.specs.declared.schema.Shape.{Shape}
use Rattle.base_kinds.specs.declared.schema.Sort.{Sort}
use Rattle.base_kinds.specs.declared.schema.Sort.TheVariants as sorts
use Rattle.base_kinds.specs.Schema.{SchemaNode, node_of}
use Rattle.base_kinds.specs.Valid.{if_some}
use Rattle.base_kinds.specs.Ancestors.{parent_names}
use Rattle.schema_core.specs.declared.node.NodeId.{NodeId}

-- the names of the node with this number, counted from 0 in the order of the text
abbrev pub names_at : List SchemaNode → ℕ → List (List ℕ)
names_at nodes number = unwrap_or (option_map (λ node. node.names) (slice_get nodes number)) []

-- the names of an inner node, or those of the root, of which there are none
abbrev pub names_above : List SchemaNode → Option NodeId → List (List ℕ)
names_above nodes None = []
names_above nodes (Some id) = names_at nodes id.0

-- nodes that other nodes stand below
abbrev pub is_inner : Sort → Bool
is_inner sorts.Container = true
is_inner sorts.List = true
is_inner _ = false

-- one name stands below the root, and more of them below a container or a list; no names are those of the root, which is no node
abbrev pub has_parent : List SchemaNode → List (List ℕ) → Bool
has_parent nodes [] = false
has_parent nodes (name ∷ []) = true
has_parent nodes (name ∷ other ∷ others) =
    if_some (node_of nodes (parent_names (name ∷ other ∷ others))) (λ node. is_inner node.sort)

-- what a node needs of those before it
pub record IsPlaced (before : List SchemaNode) (node : SchemaNode) : Type 0 where
  pub fresh : node_of before node.names ≡ None
  pub parent : IsTrue (has_parent before node.names)

-- each node has what it needs
abbrev pub AllPlaced : List SchemaNode → Type 0
AllPlaced nodes =
    (number : ℕ) (node : SchemaNode) → slice_get nodes number ≡ Some node →
    IsPlaced (take number nodes) node

-- A node of each sort, in the module with this name (RFC 7950 7.5, 7.8, 7.6, 7.7).
abbrev pub container_node : List ℕ → List (List ℕ) → SchemaNode
container_node module_name names = record {
  names = names;
  sort = sorts.Container;
  shape = None;
  keys = [];
  module_name = module_name;
  is_mandatory = false;
  reference = None;
  maximum = None;
}

abbrev pub list_node : List ℕ → List (List ℕ) → List (List ℕ) → Option ℕ → SchemaNode
list_node module_name names keys maximum = record {
  names = names;
  sort = sorts.List;
  shape = None;
  keys = keys;
  module_name = module_name;
  is_mandatory = false;
  reference = None;
  maximum = maximum;
}

abbrev pub leaf_node : List ℕ → List (List ℕ) → Shape → Bool → Option (List (List ℕ)) → SchemaNode
leaf_node module_name names shape is_mandatory reference = record {
  names = names;
  sort = sorts.Leaf;
  shape = Some shape;
  keys = [];
  module_name = module_name;
  is_mandatory = is_mandatory;
  reference = reference;
  maximum = None;
}

abbrev pub leaf_list_node : List ℕ → List (List ℕ) → Shape → Option ℕ → SchemaNode
leaf_list_node module_name names shape maximum = record {
  names = names;
  sort = sorts.LeafList;
  shape = Some shape;
  keys = [];
  module_name = module_name;
  is_mandatory = false;
  reference = None;
  maximum = maximum;
}
