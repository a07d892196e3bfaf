use Rattle.std.proofs.Common.{◌≡◌, ◌≤◌, ◌-◌, length}
use Rattle.pb_message.proofs.ValueSteps.{TextsLeft}
use Rattle.pb_message.proofs.values.last_text.Given as goal

abbrev pub invariant-loop-piece : goal.invariant-loop-piece
invariant-loop-piece l = record {
  inside : l.place ≤ length l.octets;
  texts : TextsLeft l.number l.octets l.place l.last;
}

abbrev pub decreases-loop-piece : goal.decreases-loop-piece
decreases-loop-piece l = length l.octets - l.place
