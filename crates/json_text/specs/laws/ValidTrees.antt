-- What is written of a valid tree is read as itself.
use Rattle.std.specs.Prelude.{◌≡◌, ◌⊎◌, List, [], ◌∷◌, Bool, true, not, ◌&&◌, Some, codes}
use Rattle.std.specs.List.{AllByRecursion, list_all}
use Rattle.std.specs.Str.{bytes_eq}
use Rattle.base_kinds.specs.declared.path.Elem.{Elem}
use Rattle.base_kinds.specs.declared.operation.Row.{Row}
use Rattle.base_kinds.specs.Schema.{SchemaNode, node_at}
use Rattle.base_kinds.specs.Valid.{step_has_node, has_row, valid}
use Rattle.base_kinds.specs.Ancestors.{path_steps}
use Rattle.base_kinds.specs.Legal.{is_fit_elem, is_fit_row}
use Rattle.base_kinds.specs.Parts.{part}
use Rattle.base_kinds.specs.Rising.{IsRising}
use Rattle.schema_core.specs.Nodes.{is_inner}
use Rattle.schema_core.specs.WellFormed.{IsWellFormed}
use Rattle.json_text.specs.laws.ReadBack.{ReadsBack}
use Rattle.json_text.specs.laws.Rows.{IsWhole}

-- a tree that is valid and in order, with rows that are fit and whole values
pub record IsWholeTree (schema : List SchemaNode) (tree : List Row) : Type 0 where
  pub is_valid : valid schema tree ≡ true
  pub rising : IsRising tree
  pub fit : list_all is_fit_row tree ≡ true
  pub whole : AllByRecursion (λ row. IsWhole row.value) tree

-- the element has no wildcard (gNMI path conventions, wildcards in paths)
abbrev pub is_plain_elem : Elem → Bool
is_plain_elem elem =
    not (bytes_eq elem.name (codes "*")) && not (bytes_eq elem.name (codes "...")) && list_all
    (λ key. not (bytes_eq key.1 (codes "*"))) elem.keys

-- the path of one container or of one entry: it has no wildcards, and its elements have just the keys of their nodes
pub record IsInstance (schema : List SchemaNode) (here : List Elem) : Type 0 where
  pub node : SchemaNode
  pub found : node_at schema here ≡ Some node
  pub inner : is_inner node.sort ≡ true
  pub plain : list_all is_plain_elem here ≡ true
  pub fit : list_all is_fit_elem here ≡ true
  pub known : list_all (step_has_node schema) (path_steps here) ≡ true

-- the path of a leaf or a leaf-list that has a row in the tree: it has no wildcards
pub record IsRowPath (tree : List Row) (here : List Elem) : Type 0 where
  pub plain : list_all is_plain_elem here ≡ true
  pub there : has_row tree here ≡ true

-- The JSON of a valid tree means just its rows: at the root those of the whole tree, at a container or an entry those
-- below it, though there be none, and at a leaf or a leaf-list its row.
abbrev pub ValidTreesReadBack : Type 0
ValidTreesReadBack =
    (schema : List SchemaNode) (tree : List Row) (here : List Elem) → IsWellFormed schema
    → IsWholeTree schema tree → (here ≡ []) ⊎ (IsInstance schema here ⊎ IsRowPath tree here)
    → ReadsBack schema here (part (here ∷ []) tree)
