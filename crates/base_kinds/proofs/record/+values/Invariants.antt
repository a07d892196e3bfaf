use Rattle.std.proofs.Common.{◌≡◌, ◌+◌, take, sum_by}
use Rattle.base_kinds.specs.Records.{counted, value_octets}
use Rattle.base_kinds.proofs.record.+values.Given as goal

-- those so far are counted
abbrev pub invariant-add_values-loop-value : goal.invariant-add_values-loop-value
invariant-add_values-loop-value l = l.sum ≡ counted (l.fn.count + sum_by value_octets (take l.value-index l.values))
