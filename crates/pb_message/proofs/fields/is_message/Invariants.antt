use Rattle.std.proofs.Common.{◌≡◌, ◌≤◌, ◌-◌, length}
use Rattle.pb_message.specs.Fields.{read_from}
use Rattle.pb_message.proofs.fields.is_message.Given as goal

abbrev pub invariant-loop-field : goal.invariant-loop-field
invariant-loop-field l = record {
  inside : l.place ≤ length l.octets;
  left : (read_from l.octets 0).1 ≡ (read_from l.octets l.place).1;
}

abbrev pub decreases-loop-field : goal.decreases-loop-field
decreases-loop-field l = length l.octets - l.place
