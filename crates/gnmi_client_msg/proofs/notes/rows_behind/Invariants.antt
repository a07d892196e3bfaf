use Rattle.std.proofs.Common.{◌≡◌, map}
use Rattle.gnmi_client_msg.specs.Notifications.{row_behind}
use Rattle.gnmi_client_msg.proofs.notes.rows_behind.Given as goal

-- the rows so far, behind the prefix
abbrev pub invariant-loop-row : goal.invariant-loop-row
invariant-loop-row l = l.wholes ≡ map (row_behind l.prefix) l.yielded
