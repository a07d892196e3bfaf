use Rattle.std.proofs.Common.{◌≡◌, drop}
use Rattle.memory_disks.specs.Octets.{with_ranges_filled}
use Rattle.memory_disks.proofs.octets.paint_all.Given as goal

-- the ranges that are left, painted too, make the whole
abbrev pub invariant-loop-range : goal.invariant-loop-range
invariant-loop-range l = with_ranges_filled l.octet (drop l.range-index l.ranges) l.octets.items ≡ with_ranges_filled l.octet l.ranges l.fn.octets.items
