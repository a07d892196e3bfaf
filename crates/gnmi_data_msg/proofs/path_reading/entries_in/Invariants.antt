use Rattle.std.proofs.Common.{◌≡◌, take, Some}
use Rattle.std.specs.Option.{option_map}
use Rattle.gnmi_data_msg.specs.Numbers.{elem_key}
use Rattle.gnmi_data_msg.specs.Parts.{messages_in}
use Rattle.gnmi_data_msg.specs.Paths.{entry_of, keys_of}
use Rattle.gnmi_data_msg.proofs.path_reading.entries_in.Given as goal

-- the entries of the fields so far
abbrev pub invariant-loop-field : goal.invariant-loop-field
invariant-loop-field l = option_map keys_of (messages_in entry_of l.octets elem_key (take l.field-index l.fields)) ≡ Some l.map.entries
