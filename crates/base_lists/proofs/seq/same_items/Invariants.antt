use Rattle.std.proofs.Common.{◌≡◌, length, take}
use Rattle.base_lists.proofs.seq.same_items.Given as goal

-- the lists agree so far
abbrev pub invariant-loop-i : goal.invariant-loop-i
invariant-loop-i g l = record { lengths : length l.xs ≡ length l.ys; agree : take l.i l.xs ≡ take l.i l.ys }
