use Rattle.std.proofs.Common.{◌≡◌, ◌≤◌, ◌-◌, length}
use Rattle.pb_message.proofs.MemberSteps.{RunSoFar}
use Rattle.pb_message.proofs.members.run_of.Given as goal

abbrev pub invariant-loop-field : goal.invariant-loop-field
invariant-loop-field l = record {
  inside : l.place ≤ length l.octets;
  run : RunSoFar l.numbers l.octets l.place l.run;
}

abbrev pub decreases-loop-field : goal.decreases-loop-field
decreases-loop-field l = length l.octets - l.place
