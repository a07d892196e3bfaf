use Rattle.std.proofs.Common.{◌≡◌, ◌≤◌, ◌-◌, length}
use Rattle.std.specs.List.{last_or}
use Rattle.pb_wire.specs.Values.{varints}
use Rattle.pb_message.specs.Fields.{fields_at}
use Rattle.pb_message.specs.Values.{number_under}
use Rattle.pb_message.proofs.values.number_under.Given as goal

abbrev pub invariant-loop-field : goal.invariant-loop-field
invariant-loop-field l = record {
  inside : l.place ≤ length l.octets;
  number : number_under l.number l.octets ≡ last_or l.last (varints l.number (fields_at l.octets l.place));
}

abbrev pub decreases-loop-field : goal.decreases-loop-field
decreases-loop-field l = length l.octets - l.place
