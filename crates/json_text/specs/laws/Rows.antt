-- The values and the rows that the laws of what is written speak of: those that a valid tree has.
use Rattle.std.specs.Prelude.{◌≡◌, ℕ, List, [], ◌∷◌, ◌++◌, Bool, false, true, map, length, drop, ◌≤◌, if◌then◌else◌}
use Rattle.std.specs.List.{AllByRecursion, list_all}
use Rattle.std.specs.Ordering.{is_gt}
use Rattle.base_kinds.specs.Paths.{text_cmp}
use Rattle.base_kinds.specs.declared.value.Value.{Value}
use Rattle.base_kinds.specs.declared.schema.Shape.{Shape}
use Rattle.base_kinds.specs.declared.path.Elem.{Elem}
use Rattle.base_kinds.specs.declared.operation.Row.{Row}
use Rattle.base_kinds.specs.Schema.{SchemaNode, same_names, node_at}
use Rattle.base_kinds.specs.Valid.{if_some, has_key_leaf, nodes_exist, types_hold}
use Rattle.base_kinds.specs.Ancestors.{path_steps, path_steps_from}
use Rattle.base_kinds.specs.Rising.{IsRising}
use Rattle.base_kinds.specs.Legal.{is_fit_scalar}
use Rattle.base_kinds.specs.Values.{has_shape, is_list, values_in}
use Rattle.value_core.specs.KeyTexts.{IsStored}
use Rattle.base_kinds.specs.Limits.{most_elements}

-- the number has 64 bits, octets are below 256, and a decimal has 1 to 18 digits behind the point
pub record IsPlainScalar (value : Value) : Type 0 where
  pub fit : is_fit_scalar value ≡ true
  pub stored : IsStored value

-- a value of a leaf of this shape
pub record IsScalarOf (shape : Shape) (value : Value) : Type 0 where
  pub shaped : has_shape shape value ≡ true
  pub plain : IsPlainScalar value

-- the numbers have 64 bits, octets are below 256, a decimal has 1 to 18 digits behind the point, and a leaf-list has some value
pub record IsWhole (value : Value) : Type 0 where
  pub alone : is_list value ≡ false → IsPlainScalar value
  pub inside : AllByRecursion IsPlainScalar (values_in value)
  pub some : is_list value ≡ true → values_in value ≡ [] → ⊥

-- the names with one more, which stands before the first that is above it
abbrev pub with_name : List ℕ → List (List ℕ) → List (List ℕ)
with_name name [] = name ∷ []
with_name name (other ∷ others) =
    if is_gt (text_cmp other name) then name ∷ other ∷ others else other ∷ with_name name others

-- the names put among those so far, in order
abbrev pub in_name_order : List (List ℕ) → List (List ℕ) → List (List ℕ)
in_name_order done [] = done
in_name_order done (name ∷ names) = in_name_order (with_name name done) names

-- the element has just the keys of its list, in the order of their names
abbrev pub step_ordered : List SchemaNode → List Elem × Elem → Bool
step_ordered schema step =
    if_some (node_at schema step.0) (λ node. same_names (map (λ key. key.0) step.1.keys)
    (in_name_order [] node.keys))

abbrev pub row_ordered : List SchemaNode → Row → Bool
row_ordered schema row = list_all (step_ordered schema) (path_steps row.path)

-- each element of the row's path behind the instance has its key leaves among the rows, and their key texts are the keys
abbrev pub keyed_behind : List Row → List Elem → Row → Bool
keyed_behind rows here row =
    list_all (λ step. list_all (has_key_leaf rows step.0) step.1.keys)
    (path_steps_from here (drop (length here) row.path))

-- the path of a row below an instance
pub record IsBelow (here path : List Elem) : Type 0 where
  pub elem : Elem
  pub rest : List Elem
  pub is : path ≡ here ++ elem ∷ rest
  pub few : length (elem ∷ rest) ≤ most_elements

-- rows below an instance as a valid tree has them, rising by path, but with no empty leaf-list and with keys in order
pub record IsPart (schema : List SchemaNode) (here : List Elem) (rows : List Row) : Type 0 where
  pub below : AllByRecursion (λ row. IsBelow here row.path) rows
  pub rising : IsRising rows
  pub known : nodes_exist schema rows ≡ true
  pub shaped : types_hold schema rows ≡ true
  pub whole : AllByRecursion (λ row. IsWhole row.value) rows
  pub ordered : list_all (row_ordered schema) rows ≡ true
  pub keyed : list_all (keyed_behind rows here) rows ≡ true
