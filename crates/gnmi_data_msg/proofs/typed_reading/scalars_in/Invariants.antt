use Rattle.std.proofs.Common.{◌≡◌, take, Some}
use Rattle.std.specs.Option.{option_map}
use Rattle.gnmi_data_msg.specs.Numbers.{array_element}
use Rattle.gnmi_data_msg.specs.Parts.{messages_in}
use Rattle.gnmi_data_msg.specs.TypedValues.{element_of, scalars_of}
use Rattle.gnmi_data_msg.proofs.typed_reading.scalars_in.Given as goal

-- the scalars of the fields so far
abbrev pub invariant-loop-field : goal.invariant-loop-field
invariant-loop-field l = option_map scalars_of (messages_in element_of l.octets array_element (take l.field-index l.fields)) ≡ Some l.scalars
