use Rattle.std.proofs.Common.{◌≤◌, ◌-◌, ◌*◌, ◌^◌}
use Rattle.hpack_huff.specs.Code.{first_code}
use Rattle.hpack_huff.proofs.table.find_from.Given as goal

-- no shorter code stands first
abbrev pub invariant-loop-length : goal.invariant-loop-length
invariant-loop-length l = (5 ≤ l.length) × (l.length ≤ 30) × (first_code l.length * 2 ^ (40 - l.length) ≤ l.window)

abbrev pub decreases-loop-length : goal.decreases-loop-length
decreases-loop-length l = 30 - l.length
