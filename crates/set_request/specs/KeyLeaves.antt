-- The way of a path through a schema (gNMI path conventions 2.2, RFC 7950 7.8.2), and the key leaves that it names.
use Rattle.std.specs.Prelude.{ℕ, List, [], ◌∷◌, ◌++◌, Bool, ◌||◌, codes, Option, Some, None, Result, Ok, Err, if◌then◌else◌}
use Rattle.std.specs.List.{list_any}
use Rattle.std.specs.Option.{option_and_then}
use Rattle.std.specs.Str.{bytes_eq}
use Rattle.base_kinds.specs.declared.path.Elem.{Elem}
use Rattle.base_kinds.specs.declared.operation.Row.{Row}
use Rattle.base_kinds.specs.declared.value.Value.{Value}
use Rattle.base_kinds.specs.declared.schema.Shape.{Shape}
use Rattle.base_kinds.specs.declared.refusal.Refusal.{Refusal}
use Rattle.base_kinds.specs.declared.refusal.Refusal.TheVariants.{BadPath, NotInSchema}
use Rattle.base_kinds.specs.Schema.{SchemaNode, node_at}
use Rattle.base_kinds.specs.Valid.{has_just_keys}
use Rattle.base_kinds.specs.Ancestors.{child}
use Rattle.base_lists.specs.Results.{and_then, traverse}
use Rattle.value_core.specs.KeyValues.{key_value}

-- a name `*` or `...`, or a key value `*`
abbrev pub is_wild : Elem → Bool
is_wild elem =
    bytes_eq elem.name (codes "*") || bytes_eq elem.name (codes "...")
    || list_any (λ key. bytes_eq key.1 (codes "*")) elem.keys

-- the shape of the leaf or leaf-list at a path
abbrev pub shape_at : List SchemaNode → List Elem → Option Shape
shape_at schema path = option_and_then (λ node. node.shape) (node_at schema path)

-- the value that a key of an entry spells
abbrev pub value_of_key : List SchemaNode → List Elem → List ℕ × List ℕ → Option Value
value_of_key schema entry key =
    option_and_then (λ shape. key_value shape key.1) (shape_at schema (child entry key.0))

-- a key's text has to be that of one of its leaf's values
abbrev pub leaf_with : List Elem → List ℕ × List ℕ → Option Value → Result Row Refusal
leaf_with entry key None = Err BadPath
leaf_with entry key (Some value) = Ok (record { path = child entry key.0; value = value })

-- the key leaf of an entry
abbrev pub key_leaf : List SchemaNode → List Elem → List ℕ × List ℕ → Result Row Refusal
key_leaf schema entry key = leaf_with entry key (value_of_key schema entry key)

-- the key leaves of an entry; the element needs a node with its name and just that node's keys
abbrev pub key_leaves_of_elem :
    List SchemaNode → List Elem → Elem → Option SchemaNode → Result (List Row) Refusal
key_leaves_of_elem schema entry elem None = Err NotInSchema
key_leaves_of_elem schema entry elem (Some node) =
    if has_just_keys elem node.keys then traverse (key_leaf schema entry) elem.keys else Err BadPath

-- the key leaves of the elements behind a front; the first element that fails decides
abbrev pub key_leaves_from : List SchemaNode → List Elem → List Elem → Result (List Row) Refusal
key_leaves_from schema front [] = Ok []
key_leaves_from schema front (elem ∷ elems) =
    and_then (key_leaves_of_elem schema (front ++ elem ∷ []) elem
    (node_at schema (front ++ elem ∷ []))) (λ leaves.
    and_then (key_leaves_from schema (front ++ elem ∷ []) elems) (λ others.
    Ok (leaves ++ others)))

-- the key leaves that a path names
abbrev pub key_leaves_of : List SchemaNode → List Elem → Result (List Row) Refusal
key_leaves_of schema path = key_leaves_from schema [] path
