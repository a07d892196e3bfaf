use Rattle.std.proofs.Common.{◌≡◌, take}
use Rattle.std.specs.List.{flat_map}
use Rattle.gnmi_client_msg.specs.Capabilities.{encodings_in}
use Rattle.gnmi_client_msg.proofs.capabilities.encodings_of.Given as goal

-- the encodings in the fields so far
abbrev pub invariant-loop-field : goal.invariant-loop-field
invariant-loop-field l = l.list ≡ flat_map (encodings_in l.octets) (take l.field-index l.fields)
