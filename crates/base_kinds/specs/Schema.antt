-- A schema as contracts see it: its data nodes in the order of its text (RFC 7950 4.2.2).
use Rattle.std.specs.Prelude.{ℕ, List, [], ◌∷◌, Bool, Option, Some, None, map, if◌then◌else◌}
use Rattle.std.specs.Str.{bytes_eq}
use Rattle.std.specs.Cmp.Lexicographic.{pointwise}
use Rattle.base_kinds.specs.declared.path.Elem.{Elem}
use Rattle.base_kinds.specs.declared.schema.Shape.{Shape}
use Rattle.base_kinds.specs.declared.schema.Sort.{Sort}

-- A node, in the words of RFC 7950 in brackets.
pub record SchemaNode : Type 0 where
  -- the names from the root to it
  pub names : List (List ℕ)
  -- container, list, leaf or leaf-list (4.2.2)
  pub sort : Sort
  -- the type of a leaf or a leaf-list (4.2.4, 9)
  pub shape : Option Shape
  -- the names of a list's keys (key, 7.8.2)
  pub keys : List (List ℕ)
  -- the name of its module (7.1)
  pub module_name : List ℕ
  -- a leaf has to be there wherever its parent is (mandatory, 7.6.5)
  pub is_mandatory : Bool
  -- the names of the leaf whose values it takes (leafref, 9.9)
  pub reference : Option (List (List ℕ))
  -- how many entries or values it may have (max-elements, 7.7.6)
  pub maximum : Option ℕ

-- the names of a path's elements
abbrev pub names_of : List Elem → List (List ℕ)
names_of path = map (λ elem. elem.name) path

abbrev pub same_names : List (List ℕ) → List (List ℕ) → Bool
same_names = pointwise bytes_eq

-- the node with these names
abbrev pub node_of : List SchemaNode → List (List ℕ) → Option SchemaNode
node_of [] names = None
node_of (node ∷ nodes) names =
    if same_names node.names names then Some node else node_of nodes names

-- the node of a path
abbrev pub node_at : List SchemaNode → List Elem → Option SchemaNode
node_at schema path = node_of schema (names_of path)
