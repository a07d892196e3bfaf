-- The index of a schema: the numbers of its nodes, in the order of their names.
use Rattle.std.specs.Prelude.{◌≡◌, ℕ, ◌<◌, ◌≤◌, List, length, slice_index, EachIndex, SomeIndex}
use Rattle.std.specs.declared.cmp.Ordering.{Ordering}
use Rattle.std.specs.declared.cmp.Ordering.TheVariants.{Less, Greater}
use Rattle.std.specs.Ordering.{nat_cmp}
use Rattle.std.specs.Cmp.Lexicographic.{slice_cmp}
use Rattle.base_kinds.specs.Schema.{SchemaNode}
use Rattle.base_kinds.specs.Limits.{most_schema_nodes}
use Rattle.schema_core.specs.Nodes.{names_at, AllPlaced}

-- name by name, each octet by octet, and a front of a list of names comes before it
abbrev pub names_cmp : List (List ℕ) → List (List ℕ) → Ordering
names_cmp = slice_cmp (slice_cmp nat_cmp)

-- the names at this place of the order
abbrev pub names_in : List SchemaNode → List ℕ → ℕ → List (List ℕ)
names_in nodes order place = names_at nodes (slice_index order place)

-- the order has each node's number, and the names of the nodes rise along it
pub record IsSortedIndex (nodes : List SchemaNode) (order : List ℕ) : Type 0 where
  pub placed : AllPlaced nodes
  pub few : length nodes ≤ most_schema_nodes
  pub rising : (i j : ℕ) → i < j → j < length order →
      names_cmp (names_in nodes order i) (names_in nodes order j) ≡ Less
  pub within : EachIndex order (λ place. slice_index order place < length nodes)
  pub complete : EachIndex nodes
      (λ number. SomeIndex order (λ place. slice_index order place ≡ number))

-- below low the names in the order come before these, and from high on behind them
pub record IsBetween (nodes : List SchemaNode) (order : List ℕ) (names : List (List ℕ))
    (low high : ℕ) : Type 0 where
  pub ordered : low ≤ high
  pub inside : high ≤ length order
  pub below : (place : ℕ) → place < low → names_cmp names (names_in nodes order place) ≡ Greater
  pub above : (place : ℕ) → high ≤ place → place < length order →
      names_cmp names (names_in nodes order place) ≡ Less
