use Rattle.std.proofs.Common.{◌≤◌, ◌-◌, length}
use Rattle.environment.specs.Input.{Read}
use Rattle.grpc_client.proofs.octets.read_exactly.Given as goal

-- what was taken so far is what the source has given, and it has met no fault
abbrev pub invariant-loop-buffer : goal.invariant-loop-buffer
invariant-loop-buffer g l =
    let seen = g.I.Source.seen in
    record {
      read : Read l.octets (seen l.fn.input) (seen l.input);
      bound : length l.octets ≤ l.count;
    }

abbrev pub decreases-loop-buffer : goal.decreases-loop-buffer
decreases-loop-buffer g l = l.count - length l.octets
