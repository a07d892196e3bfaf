-- Which trees are valid under a schema, by six rules (RFC 7950 7.6.5, 7.7.6, 7.8.2, 9.9, narrowed to this project's
-- profile), and which are small enough.
use Rattle.std.specs.Prelude.{ℕ, List, [], ◌∷◌, Bool, true, false, not, ◌&&◌, ◌||◌, ◌==◌, nat_le, length, filter, Option, Some, None, IsTrue, if◌then◌else◌}
use Rattle.std.specs.List.{list_any, list_all, flat_map}
use Rattle.std.specs.Str.{bytes_eq}
use Rattle.base_kinds.specs.declared.path.Elem.{Elem}
use Rattle.base_kinds.specs.declared.value.Value.{Value}
use Rattle.base_kinds.specs.declared.operation.Row.{Row}
use Rattle.base_kinds.specs.declared.schema.Shape.{Shape}
use Rattle.base_kinds.specs.declared.schema.Sort.{Sort}
use Rattle.base_kinds.specs.declared.schema.Sort.TheVariants as sorts
use Rattle.base_kinds.specs.Paths.{same_path}
use Rattle.base_kinds.specs.Ancestors.{path_steps, ancestors, child, parent_of, parent_names, own_name}
use Rattle.base_kinds.specs.Limits.{most_leaves, most_weight}
use Rattle.base_kinds.specs.Schema.{SchemaNode, names_of, same_names, node_at}
use Rattle.base_kinds.specs.Values.{is_list, values_in, same_scalar, all_differ, has_shape}
use Rattle.base_kinds.specs.Keys.{key_text}
use Rattle.base_kinds.specs.Weights.{tree_weight}

-- there is one, and it passes the test
abbrev pub if_some : {A : Type 0} → Option A → (A → Bool) → Bool
if_some None test = false
if_some (Some a) test = test a

-- where there is one, it passes the test
abbrev pub unless_none : {A : Type 0} → Option A → (A → Bool) → Bool
unless_none None test = true
unless_none (Some a) test = test a

-- 1: each row stands at a leaf or a leaf-list, and each element has just the keys of its node
abbrev pub is_leafy : Sort → Bool
is_leafy sorts.Leaf = true
is_leafy sorts.LeafList = true
is_leafy _ = false

abbrev pub has_just_keys : Elem → List (List ℕ) → Bool
has_just_keys elem keys =
    length elem.keys == length keys
    && list_all (λ key. list_any (λ pair. bytes_eq key pair.0) elem.keys) keys

abbrev pub step_has_node : List SchemaNode → List Elem × Elem → Bool
step_has_node schema step = if_some (node_at schema step.0) (λ node. has_just_keys step.1 node.keys)

abbrev pub row_has_nodes : List SchemaNode → Row → Bool
row_has_nodes schema row =
    if_some (node_at schema row.path) (λ node. is_leafy node.sort)
    && list_all (step_has_node schema) (path_steps row.path)

abbrev pub nodes_exist : List SchemaNode → List Row → Bool
nodes_exist schema rows = list_all (row_has_nodes schema) rows

-- 2: each value has its node's shape; a leaf-list has a list of such values, no two of them equal
abbrev pub has_type : Sort → Shape → Value → Bool
has_type sorts.Leaf shape value = has_shape shape value
has_type sorts.LeafList shape value =
    is_list value && list_all (has_shape shape) (values_in value) && all_differ (values_in value)
has_type _ shape value = false

abbrev pub row_has_type : List SchemaNode → Row → Bool
row_has_type schema row =
    if_some (node_at schema row.path)
    (λ node. if_some node.shape (λ shape. has_type node.sort shape row.value))

abbrev pub types_hold : List SchemaNode → List Row → Bool
types_hold schema rows = list_all (row_has_type schema) rows

-- 3: each element with keys has its key leaves as rows, and their key texts are the keys
abbrev pub has_key_leaf : List Row → List Elem → List ℕ × List ℕ → Bool
has_key_leaf rows instance key =
    list_any (λ row. same_path row.path (child instance key.0)
    && bytes_eq (key_text row.value) key.1) rows

abbrev pub row_has_keys : List Row → Row → Bool
row_has_keys rows row =
    list_all (λ step. list_all (has_key_leaf rows step.0) step.1.keys) (path_steps row.path)

abbrev pub keys_hold : List Row → Bool
keys_hold rows = list_all (row_has_keys rows) rows

-- 4: a mandatory leaf stands wherever some row is below the instance of its parent
abbrev pub has_row : List Row → List Elem → Bool
has_row rows path = list_any (λ row. same_path row.path path) rows

-- the leaf stands below the instance, if that is one of the leaf's parent
abbrev pub stands_below : List Row → List (List ℕ) → List Elem → Bool
stands_below rows names instance =
    not (same_names (names_of instance) (parent_names names))
    || has_row rows (child instance (own_name names))

abbrev pub node_is_present : List Row → SchemaNode → Bool
node_is_present rows node =
    not node.is_mandatory
    || list_all (λ row. list_all (stands_below rows node.names) (ancestors row.path)) rows

abbrev pub mandatory_present : List SchemaNode → List Row → Bool
mandatory_present schema rows = list_all (node_is_present rows) schema

-- 5: the value of a leaf that refers to another one is the value of some row of that leaf
abbrev pub refers : List Row → Value → List (List ℕ) → Bool
refers rows value names =
    list_any (λ row. same_names (names_of row.path) names && same_scalar row.value value) rows

abbrev pub row_resolves : List SchemaNode → List Row → Row → Bool
row_resolves schema rows row =
    if_some (node_at schema row.path) (λ node. unless_none node.reference (refers rows row.value))

abbrev pub leafrefs_resolve : List SchemaNode → List Row → Bool
leafrefs_resolve schema rows = list_all (row_resolves schema rows) rows

-- 6: no list has more entries in one instance of its parent, and no leaf-list more values, than its maximum
abbrev pub each_once : List (List Elem) → List (List Elem)
each_once [] = []
each_once (path ∷ paths) =
    if list_any (same_path path) paths then each_once paths else path ∷ each_once paths

-- the entries of the lists with these names: the instances that some row stands below
abbrev pub entries_of : List Row → List (List ℕ) → List (List Elem)
entries_of rows names =
    each_once (filter (λ instance. same_names (names_of instance) names)
    (flat_map (λ row. ancestors row.path) rows))

-- so many of the paths at most have the same path above them
abbrev pub few_beside : ℕ → List (List Elem) → Bool
few_beside most paths =
    list_all (λ path. nat_le (length
    (filter (λ other. same_path (parent_of other) (parent_of path)) paths)) most) paths

abbrev pub few_values : ℕ → List Row → List (List ℕ) → Bool
few_values most rows names =
    list_all (λ row. not (same_names (names_of row.path) names)
    || nat_le (length (values_in row.value)) most) rows

abbrev pub is_in_maximum : Sort → List (List ℕ) → List Row → ℕ → Bool
is_in_maximum sorts.List names rows most = few_beside most (entries_of rows names)
is_in_maximum sorts.LeafList names rows most = few_values most rows names
is_in_maximum _ names rows most = true

abbrev pub node_in_maximum : List Row → SchemaNode → Bool
node_in_maximum rows node = unless_none node.maximum (is_in_maximum node.sort node.names rows)

abbrev pub max_elements_hold : List SchemaNode → List Row → Bool
max_elements_hold schema rows = list_all (node_in_maximum rows) schema

-- the six rules
abbrev pub valid : List SchemaNode → List Row → Bool
valid schema rows =
    nodes_exist schema rows && types_hold schema rows && keys_hold rows
    && mandatory_present schema rows && leafrefs_resolve schema rows
    && max_elements_hold schema rows

-- the same as facts
pub record IsValid (schema : List SchemaNode) (rows : List Row) : Type 0 where
  pub known : IsTrue (nodes_exist schema rows)
  pub shaped : IsTrue (types_hold schema rows)
  pub keyed : IsTrue (keys_hold rows)
  pub mandatory : IsTrue (mandatory_present schema rows)
  pub referring : IsTrue (leafrefs_resolve schema rows)
  pub within : IsTrue (max_elements_hold schema rows)

-- a tree has a bounded number of leaves, and a bounded weight
abbrev pub fits : List Row → Bool
fits rows = nat_le (length rows) most_leaves && nat_le (tree_weight rows) most_weight
