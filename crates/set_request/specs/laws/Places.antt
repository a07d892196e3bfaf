-- Where the rows of the operations of a request stand.
use Rattle.std.specs.Prelude.{◌≡◌, ◌⊎◌, ℕ, List, [], ◌∷◌, ◌++◌, Ok}
use Rattle.std.specs.List.{Contains, AllByRecursion}
use Rattle.base_kinds.specs.declared.path.Elem.{Elem}
use Rattle.base_kinds.specs.declared.operation.Row.{Row}
use Rattle.base_kinds.specs.declared.operation.Op.{Op}
use Rattle.base_kinds.specs.declared.request.UnresolvedSet.{UnresolvedSet}
use Rattle.base_kinds.specs.Ancestors.{child}
use Rattle.base_kinds.specs.Schema.{SchemaNode}
use Rattle.schema_core.specs.WellFormed.{IsWellFormed}
use Rattle.set_request.specs.Operations.{ops_of_request}

-- the other path is this one, or stands below it
pub record IsAtOrBelow (path other : List Elem) : Type 0 where
  pub rest : List Elem
  pub is : other ≡ path ++ rest

-- The other path is that of a key leaf which this one names: of an entry of a list that it leads through.
pub record NamesKeyLeaf (path other : List Elem) : Type 0 where
  pub front : List Elem
  pub elem : Elem
  pub rest : List Elem
  pub key : List ℕ × List ℕ
  pub split : path ≡ front ++ elem ∷ rest
  pub named : Contains elem.keys key
  pub is : other ≡ child (front ++ elem ∷ []) key.0

-- a row that may stand in an operation at the path
abbrev pub BelongsAt : List Elem → Row → Type 0
BelongsAt path row = IsAtOrBelow path row.path ⊎ NamesKeyLeaf path row.path

-- Each row of an operation stands at or below the operation's path, or is a key leaf that the path names.
abbrev pub RowsBelong : Type 0
RowsBelong =
    (schema : List SchemaNode) (ask : UnresolvedSet) (ops : List Op)
    → IsWellFormed schema → ops_of_request schema ask ≡ Ok ops
    → AllByRecursion (λ (op : Op). AllByRecursion (BelongsAt op.path) op.rows) ops
