use Rattle.std.proofs.Common.{◌≡◌, ◌≤◌, ◌-◌, ◌++◌, length}
use Rattle.std.specs.List.{concat}
use Rattle.pb_message.specs.Values.{pieces_from}
use Rattle.pb_message.proofs.values.joined_from.Given as goal

abbrev pub invariant-loop-piece : goal.invariant-loop-piece
invariant-loop-piece l = record {
  inside : l.place ≤ length l.octets;
  joined : concat (pieces_from l.number l.octets l.from) ≡ l.joined ++ concat (pieces_from l.number l.octets l.place);
}

abbrev pub decreases-loop-piece : goal.decreases-loop-piece
decreases-loop-piece l = length l.octets - l.place
