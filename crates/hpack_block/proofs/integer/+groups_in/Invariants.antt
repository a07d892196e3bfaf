use Rattle.hpack_block.proofs.integer.+groups_in.Given as goal

abbrev pub decreases-groups_in : goal.decreases-groups_in
decreases-groups_in l = l.most
