use Rattle.std.proofs.Common.{◌≡◌, ◌++◌, take}
use Rattle.gnmi_data_msg.specs.Writing.{message_fields}
use Rattle.gnmi_client_msg.specs.Requests.{change_message}
use Rattle.gnmi_client_msg.proofs.requests.put_changes.Given as goal

-- the updates of the changes so far are added
abbrev pub invariant-loop-change : goal.invariant-loop-change
invariant-loop-change l = l.out ≡ l.fn.out ++ message_fields change_message l.number (take l.change-index l.changes)
