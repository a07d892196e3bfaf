use Rattle.base_lists.proofs.SevenBits.{ToWrite}
use Rattle.base_lists.proofs.groups.put_groups.Given as goal

-- the groups so far are written, and the rest spells what is left
abbrev pub invariant-loop-left : goal.invariant-loop-left
invariant-loop-left l = ToWrite l.fn.out l.out 9 l.number l.left

abbrev pub decreases-loop-left : goal.decreases-loop-left
decreases-loop-left l = l.left
