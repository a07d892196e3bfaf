use Rattle.std.proofs.Common.{◌≡◌, ◌++◌, take}
use Rattle.pb_wire.specs.Values.{occurrences, joined_octets}
use Rattle.pb_wire.proofs.ValueLemmas.{is_some_of}
use Rattle.pb_wire.proofs.values.joined.Given as goal

-- the octets of the fields so far are added
abbrev pub invariant-loop-field : goal.invariant-loop-field
invariant-loop-field l = record {
  added : l.out ≡ l.fn.out ++ joined_octets l.octets l.number (take l.field-index l.fields);
  stands : l.there ≡ is_some_of (occurrences l.octets l.number (take l.field-index l.fields));
}
