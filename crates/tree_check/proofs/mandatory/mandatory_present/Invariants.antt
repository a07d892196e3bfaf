use Rattle.std.proofs.Common.{◌≡◌, take, true}
use Rattle.std.specs.List.{list_all}
use Rattle.base_kinds.specs.Valid.{node_is_present}
use Rattle.tree_check.proofs.mandatory.mandatory_present.Given as goal

abbrev pub invariant-loop-number : goal.invariant-loop-number
invariant-loop-number l = list_all (node_is_present l.rows) (take l.number l.schema) ≡ true
