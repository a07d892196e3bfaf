use Rattle.std.proofs.Common.{◌≡◌, ◌++◌, take}
use Rattle.gnmi_data_msg.specs.Numbers.{note_update}
use Rattle.gnmi_data_msg.specs.Writing.{message_fields}
use Rattle.gnmi_note_msg.specs.Notifications.{row_update}
use Rattle.gnmi_note_msg.proofs.rows.put_updates.Given as goal

-- the updates of the rows so far are added
abbrev pub invariant-loop-row : goal.invariant-loop-row
invariant-loop-row l = l.out ≡ l.fn.out ++ message_fields (row_update l.schema l.encoding) note_update (take l.row-index l.rows)
