use Rattle.std.proofs.Common.{◌≡◌, ◌≤◌, length, drop}
use Rattle.base_lists.specs.SevenBits.{number_of_groups}
use Rattle.pb_wire.proofs.reading.number_of.Given as goal

-- what the octets from the place on spell
abbrev pub invariant-loop-at : goal.invariant-loop-at
invariant-loop-at l = record { in_range : l.at ≤ length l.octets; so_far : l.value ≡ number_of_groups (drop l.at l.octets) }

abbrev pub decreases-loop-at : goal.decreases-loop-at
decreases-loop-at l = l.at
