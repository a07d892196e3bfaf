use Rattle.std.proofs.Common.{length}
use Rattle.tree_check.proofs.leaf.+compare_child.Given as goal

abbrev pub decreases-compare_child : goal.decreases-compare_child
decreases-compare_child l = length l.path.now
