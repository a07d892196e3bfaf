use Rattle.std.proofs.Common.{◌≡◌, take, Some}
use Rattle.gnmi_data_msg.specs.Parts.{messages_in}
use Rattle.gnmi_data_msg.proofs.parts.messages_in.Given as goal

-- the messages of the fields so far
abbrev pub invariant-loop-field : goal.invariant-loop-field
invariant-loop-field g l = messages_in g.T.Message.meaning l.octets l.number (take l.field-index l.fields) ≡ Some l.messages
