use Rattle.std.proofs.Common.{◌≤◌, ◌-◌, length}
use Rattle.environment.specs.Input.{Read}
use Rattle.environment.proofs.reading.read_to_limit.Given as goal

-- what was taken so far is what the source has given, and it has met no fault
abbrev pub invariant-loop-buffer : goal.invariant-loop-buffer
invariant-loop-buffer g l =
    let seen = g.S.Source.seen in
    record {
      read : Read l.octets (seen l.fn.source) (seen l.source);
      bound : length l.octets ≤ l.most;
    }

abbrev pub decreases-loop-buffer : goal.decreases-loop-buffer
decreases-loop-buffer g l = l.most - length l.octets
