use Rattle.std.proofs.Common.{◌≡◌, ◌∷◌, drop}
use Rattle.base_lists.specs.Rising.{rises}
use Rattle.base_lists.proofs.ranked.rises.Given as goal

-- what is left behind the last one rises where all rise
abbrev pub invariant-loop-item : goal.invariant-loop-item
invariant-loop-item g l = rises g.T.Ranked.rank (l.last ∷ drop l.item-index l.others) ≡ rises g.T.Ranked.rank l.items
