use Rattle.std.proofs.Common.{◌≡◌, ◌+◌, take, sum_by}
use Rattle.base_kinds.specs.Records.{counted, key_octets}
use Rattle.base_kinds.proofs.record.add_keys.Given as goal

-- those so far are counted
abbrev pub invariant-loop-key : goal.invariant-loop-key
invariant-loop-key l = l.sum ≡ counted (l.fn.count + (2 + sum_by key_octets (take l.key-index l.key-items)))
