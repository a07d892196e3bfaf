use Rattle.std.proofs.Common.{◌≡◌, take, true}
use Rattle.gnmi_data_msg.specs.Parts.{are_texts}
use Rattle.gnmi_data_msg.proofs.parts.are_texts.Given as goal

-- the strings of the fields so far are UTF-8
abbrev pub invariant-loop-field : goal.invariant-loop-field
invariant-loop-field l = are_texts l.octets l.number (take l.field-index l.fields) ≡ true
