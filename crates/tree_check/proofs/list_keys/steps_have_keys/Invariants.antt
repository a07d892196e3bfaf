use Rattle.std.proofs.Common.{◌≡◌, take, drop}
use Rattle.std.specs.List.{list_all}
use Rattle.base_kinds.specs.Valid.{has_key_leaf}
use Rattle.base_kinds.specs.Ancestors.{path_steps_from}
use Rattle.tree_check.proofs.list_keys.steps_have_keys.Given as goal

abbrev pub invariant-loop-n : goal.invariant-loop-n
invariant-loop-n l =
    list_all (λ step. list_all (has_key_leaf l.rows step.0) step.1.keys) (path_steps_from (take l.n l.path) (drop l.n l.path))
    ≡ list_all (λ step. list_all (has_key_leaf l.rows step.0) step.1.keys) (path_steps_from (take l.seen l.path) (drop l.seen l.path))
