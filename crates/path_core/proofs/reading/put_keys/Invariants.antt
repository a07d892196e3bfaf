use Rattle.std.proofs.Common.{length}
use Rattle.path_core.proofs.Kept.{KeysRead}
use Rattle.path_core.proofs.reading.put_keys.Given as goal

abbrev pub invariant-loop-begun : goal.invariant-loop-begun
invariant-loop-begun l = KeysRead l.text l.keys l.rest

abbrev pub decreases-loop-begun : goal.decreases-loop-begun
decreases-loop-begun l = length l.rest
