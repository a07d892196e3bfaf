use Rattle.plain_tree.proofs.Placing.{rising_nothing}
use Rattle.plain_tree.proofs.plain_tree.PlainTree.empty.Goals as goal

pub invariant_of-result : goal.invariant_of-result
invariant_of-result c = rising_nothing _ c.new.ensures.items
