use Rattle.std.proofs.Common.{◌≡◌, ◌≤◌, ◌-◌, List, ℕ, ◌++◌, length, drop}
use Rattle.grpc_core.specs.Messages.{AreMessages}
use Rattle.grpc_core.proofs.splitter.split.Given as goal

-- these messages stand in front so far
abbrev pub invariant-loop-fault : goal.invariant-loop-fault
invariant-loop-fault l = record {
  messages : List (List ℕ);
  within : l.at ≤ length l.octets;
  added : l.out ≡ l.fn.out ++ messages;
  leading : AreMessages l.octets messages (drop l.at l.octets);
}

abbrev pub decreases-loop-fault : goal.decreases-loop-fault
decreases-loop-fault l = length l.octets - l.at
