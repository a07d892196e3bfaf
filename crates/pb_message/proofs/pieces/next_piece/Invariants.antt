use Rattle.std.proofs.Common.{◌≡◌, ◌≤◌, ◌-◌, length}
use Rattle.pb_message.specs.Values.{pieces_from}
use Rattle.pb_message.proofs.pieces.next_piece.Given as goal

abbrev pub invariant-loop-field : goal.invariant-loop-field
invariant-loop-field l = record {
  inside : l.at ≤ length l.octets;
  later : l.place ≤ l.at;
  pieces : pieces_from l.number l.octets l.place ≡ pieces_from l.number l.octets l.at;
}

abbrev pub decreases-loop-field : goal.decreases-loop-field
decreases-loop-field l = length l.octets - l.at
