use Rattle.std.proofs.Common.{◌≡◌, ◌++◌, take}
use Rattle.base_lists.proofs.tally.remember_all.Given as goal

-- all octets so far are remembered
abbrev pub invariant-loop-octet : goal.invariant-loop-octet
invariant-loop-octet l = l.past ≡ l.fn.past ++ take l.octet-index l.octets
