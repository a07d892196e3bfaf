use Rattle.std.proofs.Common.{◌≡◌, drop}
use Rattle.base_kinds.specs.History.{world_from}
use Rattle.commit_core.specs.inner.StandsFor.{world_in}
use Rattle.commit_core.proofs.replay.replay_all.Given as goal

-- what is left makes the whole
abbrev pub invariant-loop-entry : goal.invariant-loop-entry
invariant-loop-entry g l =
    let rows = g.T.TreeLike.rows in
    world_from (world_in rows l.tree l.trial) (drop l.entry-index l.entries) ≡ world_from (world_in rows l.fn.tree l.fn.trial) l.entries
