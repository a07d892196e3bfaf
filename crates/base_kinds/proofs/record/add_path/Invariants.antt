use Rattle.std.proofs.Common.{◌≡◌, ◌+◌, take, sum_by}
use Rattle.base_kinds.specs.Records.{counted, elem_octets}
use Rattle.base_kinds.proofs.record.add_path.Given as goal

-- those so far are counted
abbrev pub invariant-loop-elem : goal.invariant-loop-elem
invariant-loop-elem l = l.sum ≡ counted (l.fn.count + (2 + sum_by elem_octets (take l.elem-index l.elem-items)))
