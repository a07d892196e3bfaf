use Rattle.std.proofs.Common.{◌≡◌, take}
use Rattle.gnmi_data_msg.specs.Writing.{message_fields}
use Rattle.gnmi_data_msg.proofs.path_writing.put_messages.Given as goal

-- the messages of the items so far are added
abbrev pub invariant-loop-item : goal.invariant-loop-item
invariant-loop-item g l = l.added ≡ message_fields g.T.Written.octets l.number (take l.item-index l.items)
