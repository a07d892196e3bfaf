use Rattle.std.proofs.Common.{◌≡◌, true, take}
use Rattle.std.specs.List.{list_all}
use Rattle.base_kinds.specs.Valid.{row_has_nodes}
use Rattle.tree_check.proofs.data_nodes.nodes_exist.Given as goal

abbrev pub invariant-loop-row : goal.invariant-loop-row
invariant-loop-row l = list_all (row_has_nodes l.schema) (take l.row-index l.rows) ≡ true
