use Rattle.std.proofs.Common.{◌≡◌, drop}
use Rattle.base_kinds.specs.Tree.{in_turn, with_act}
use Rattle.commit_core.proofs.changed_tree.apply_all.Given as goal

-- applying what is left gives what applying all gives
abbrev pub invariant-loop-op : goal.invariant-loop-op
invariant-loop-op g l =
    let rows = g.T.TreeLike.rows in
    in_turn (with_act l.act (drop l.op-index l.ops)) (rows l.tree) ≡ in_turn (with_act l.act l.ops) (rows l.fn.tree)
