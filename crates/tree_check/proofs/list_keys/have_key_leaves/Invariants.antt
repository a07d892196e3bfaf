use Rattle.std.proofs.Common.{◌≡◌, take, true}
use Rattle.std.specs.List.{list_all}
use Rattle.base_kinds.specs.Valid.{has_key_leaf}
use Rattle.tree_check.proofs.list_keys.have_key_leaves.Given as goal

abbrev pub invariant-loop-key : goal.invariant-loop-key
invariant-loop-key l = list_all (has_key_leaf l.rows l.instance) (take l.key-index l.keys) ≡ true
