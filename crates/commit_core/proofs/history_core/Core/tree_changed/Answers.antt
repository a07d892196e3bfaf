use Rattle.commit_core.specs.inner.StandsFor.{world_in}
use Rattle.commit_core.proofs.Rising.{rising_tree}
use Rattle.commit_core.proofs.history_core.Core.tree_changed.Goals as goal

pub changed_tree-requires : goal.changed_tree-requires
changed_tree-requires g c =
    let core = c.self.inside in
    rising_tree core.log.items (world_in g.T.TreeLike.rows core.tree core.trial) c.self.invariant.world_is
