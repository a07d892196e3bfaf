use Rattle.std.proofs.Common.{◌≡◌, ◌+◌, take, sum_by}
use Rattle.base_kinds.specs.Records.{counted, op_octets}
use Rattle.base_kinds.proofs.record.add_ops.Given as goal

-- those so far are counted
abbrev pub invariant-loop-op : goal.invariant-loop-op
invariant-loop-op l = l.sum ≡ counted (l.fn.count + (4 + sum_by op_octets (take l.op-index l.op-items)))
