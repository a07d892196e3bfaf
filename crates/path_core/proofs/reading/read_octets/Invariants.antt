use Rattle.std.proofs.Common.{length}
use Rattle.path_core.proofs.Kept.{OctetsRead}
use Rattle.path_core.proofs.reading.read_octets.Given as goal

abbrev pub invariant-loop-octet : goal.invariant-loop-octet
invariant-loop-octet l = OctetsRead l.part l.text l.octets.items l.rest

abbrev pub decreases-loop-octet : goal.decreases-loop-octet
decreases-loop-octet l = length l.rest
