use Rattle.std.proofs.Common.{◌≡◌, ◌++◌, drop, false}
use Rattle.std.specs.Prelude.{map}
use Rattle.gnmi_client_msg.specs.Capabilities.{served_of, short_numbers}
use Rattle.gnmi_client_msg.proofs.capabilities.put_packed.Given as goal

-- the encodings of the octets so far, and those of the octets that are left
abbrev pub invariant-loop-octet : goal.invariant-loop-octet
invariant-loop-octet l = l.out ++ map served_of (short_numbers l.inside (drop l.octet-index l.octets)) ≡ l.fn.out ++ map served_of (short_numbers false l.octets)
