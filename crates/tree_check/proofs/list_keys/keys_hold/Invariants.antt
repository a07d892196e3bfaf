use Rattle.std.proofs.Common.{◌≡◌, List, take, true}
use Rattle.std.specs.List.{list_all}
use Rattle.base_kinds.specs.declared.path.Elem.{Elem}
use Rattle.base_kinds.specs.declared.operation.Row.{Row}
use Rattle.base_kinds.specs.Valid.{has_key_leaf, row_has_keys}
use Rattle.base_kinds.specs.Ancestors.{path_steps}
use Rattle.tree_check.proofs.list_keys.keys_hold.Given as goal

-- the rows so far are keyed, and so is the last path of them
pub record KeyedSoFar (rows some : List Row) (last : List Elem) : Type 0 where
  pub rows_are : list_all (row_has_keys rows) some ≡ true
  pub last_is : list_all (λ step. list_all (has_key_leaf rows step.0) step.1.keys) (path_steps last) ≡ true

abbrev pub invariant-loop-row : goal.invariant-loop-row
invariant-loop-row l = KeyedSoFar l.rows (take l.row-index l.rows) l.last
