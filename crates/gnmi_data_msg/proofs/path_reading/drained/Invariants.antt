use Rattle.std.proofs.Common.{◌≡◌, ◌++◌, length}
use Rattle.gnmi_data_msg.proofs.path_reading.drained.Given as goal

-- the entries that are out, and those that are left
abbrev pub invariant-loop-entry : goal.invariant-loop-entry
invariant-loop-entry l = l.keys ++ l.rest.entries ≡ l.fn.map.entries

abbrev pub decreases-loop-entry : goal.decreases-loop-entry
decreases-loop-entry l = length l.rest.entries
