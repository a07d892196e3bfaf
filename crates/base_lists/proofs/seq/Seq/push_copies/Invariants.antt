use Rattle.std.proofs.Common.{◌≡◌, ◌++◌, take}
use Rattle.base_lists.proofs.seq.Seq.push_copies.Given as goal

-- copies of the items so far stand behind what was there
abbrev pub invariant-loop-item : goal.invariant-loop-item
invariant-loop-item g l = l.self ≡ l.fn.self ++ take l.item-index l.items
