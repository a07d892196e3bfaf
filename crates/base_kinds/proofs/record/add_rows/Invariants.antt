use Rattle.std.proofs.Common.{◌≡◌, ◌+◌, take, sum_by}
use Rattle.base_kinds.specs.Records.{counted, row_octets}
use Rattle.base_kinds.proofs.record.add_rows.Given as goal

-- those so far are counted
abbrev pub invariant-loop-row : goal.invariant-loop-row
invariant-loop-row l = l.sum ≡ counted (l.fn.count + (4 + sum_by row_octets (take l.row-index l.row-items)))
