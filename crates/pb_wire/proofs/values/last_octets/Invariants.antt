use Rattle.std.proofs.Common.{◌≡◌, take}
use Rattle.std.specs.Prelude.{option_map}
use Rattle.pb_wire.specs.Values.{last_octets}
use Rattle.pb_wire.proofs.values.last_octets.Given as goal

-- the last of the fields so far
abbrev pub invariant-loop-field : goal.invariant-loop-field
invariant-loop-field l = option_map (λ x. x.now) l.last ≡ last_octets l.octets l.number (take l.field-index l.fields)
