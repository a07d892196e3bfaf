use Rattle.std.proofs.Common.{◌≡◌, ℕ, List, take, true}
use Rattle.std.specs.List.{list_all}
use Rattle.base_kinds.specs.declared.path.Elem.{Elem}
use Rattle.base_kinds.specs.declared.operation.Row.{Row}
use Rattle.base_kinds.specs.Valid.{stands_below}
use Rattle.base_kinds.specs.Ancestors.{ancestors}
use Rattle.tree_check.proofs.mandatory.stands_everywhere.Given as goal

-- the leaf stands for the rows so far, and for the last path of them
pub record StandsSoFar (rows some : List Row) (names : List (List ℕ)) (last : List Elem) : Type 0 where
  pub rows_are : list_all (λ row. list_all (stands_below rows names) (ancestors row.path)) some ≡ true
  pub last_is : list_all (stands_below rows names) (ancestors last) ≡ true

abbrev pub invariant-loop-row : goal.invariant-loop-row
invariant-loop-row l = StandsSoFar l.rows (take l.row-index l.rows) l.names l.last
