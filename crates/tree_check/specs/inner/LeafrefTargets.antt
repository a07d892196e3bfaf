-- What leafrefs may refer to: the values that stand in a tree, each with the number of its leaf's node.
-- Private functions alone cite this.
use Rattle.std.specs.Prelude.{◌≡◌, ℕ, ◌<◌, List, Bool, ◌&&◌, length}
use Rattle.std.specs.List.{list_any, All}
use Rattle.std.specs.declared.cmp.Ordering.{Ordering}
use Rattle.std.specs.Ordering.{nat_cmp, ordering_then}
use Rattle.base_kinds.specs.declared.value.Value.{Value}
use Rattle.base_kinds.specs.declared.operation.Row.{Row}
use Rattle.base_kinds.specs.Schema.{SchemaNode, same_names, node_at}
use Rattle.base_kinds.specs.Values.{same_scalar}
use Rattle.base_kinds.specs.Valid.{if_some, unless_none, refers}
use Rattle.schema_core.specs.Nodes.{names_at}
use Rattle.value_core.specs.declared.scalar.Scalar.{Scalar}
use Rattle.value_core.specs.contracts.scalar.ScalarOrd.TheImpl.{ghosts}
use Rattle.value_core.specs.Scalars.{value_of}

-- the value stands at the leaf with these names
abbrev pub has_target : List SchemaNode → List (ℕ × Scalar) → Value → List (List ℕ) → Bool
has_target schema targets value names =
    list_any
    (λ one. same_names (names_at schema one.0) names && same_scalar (value_of one.1) value)
    targets

-- the row's value stands at the leaf that its leaf refers to
abbrev pub row_has_target : List SchemaNode → List (ℕ × Scalar) → Row → Bool
row_has_target schema targets row =
    if_some (node_at schema row.path) (λ node.
    unless_none node.reference (has_target schema targets row.value))

-- each has the number of a node
abbrev pub AreNumbered : List SchemaNode → List (ℕ × Scalar) → Type 0
AreNumbered schema targets = All (λ one. one.0 < length schema) targets

-- these are the values of the rows
pub record AreTargets (schema : List SchemaNode) (rows : List Row)
    (targets : List (ℕ × Scalar)) : Type 0 where
  pub within : AreNumbered schema targets
  pub same : (value : Value) (names : List (List ℕ)) →
      has_target schema targets value names ≡ refers rows value names

-- by the node, and then by the value
abbrev pub target_cmp : ℕ × Scalar → ℕ × Scalar → Ordering
target_cmp a b = ordering_then (nat_cmp a.0 b.0) (ghosts.cmp a.1 b.1)
