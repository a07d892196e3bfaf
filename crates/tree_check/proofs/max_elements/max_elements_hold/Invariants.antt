use Rattle.std.proofs.Common.{◌≡◌, true, take}
use Rattle.std.specs.List.{list_all}
use Rattle.base_kinds.specs.Valid.{node_in_maximum}
use Rattle.tree_check.proofs.max_elements.max_elements_hold.Given as goal

abbrev pub invariant-loop-number : goal.invariant-loop-number
invariant-loop-number l = list_all (node_in_maximum l.rows) (take l.number l.schema) ≡ true
