use Rattle.std.proofs.Common.{◌≡◌, ◌≤◌, length, take}
use Rattle.base_kinds.specs.Texts.{without_last_zeros}
use Rattle.value_core.proofs.written.length_without_zeros.Given as goal

-- only zeros are left out so far
abbrev pub invariant-loop-length : goal.invariant-loop-length
invariant-loop-length l = record { within : l.length ≤ length l.digits; same : without_last_zeros l.digits ≡ without_last_zeros (take l.length l.digits) }

abbrev pub decreases-loop-length : goal.decreases-loop-length
decreases-loop-length l = l.length
