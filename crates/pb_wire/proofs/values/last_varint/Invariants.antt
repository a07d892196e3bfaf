use Rattle.std.proofs.Common.{◌≡◌, take}
use Rattle.pb_wire.specs.Values.{last_scalar}
use Rattle.pb_wire.proofs.values.last_varint.Given as goal

-- the last of the fields so far
abbrev pub invariant-loop-field : goal.invariant-loop-field
invariant-loop-field l = l.last ≡ last_scalar l.number (take l.field-index l.fields)
