use Rattle.std.proofs.Common.{◌≡◌, ◌+◌, ◌*◌, ◌++◌}
use Rattle.generated_sets.specs.Connections.{frames_of_sets, opening}
use Rattle.generated_sets.proofs.connection.connection_of_sets.Given as goal

-- what is there, and the Sets that are left, are the opening and all Sets
abbrev pub invariant-sets : goal.invariant-sets
invariant-sets l = record {
  octets : l.out ++ frames_of_sets l.left l.stream l.state ≡ opening ++ frames_of_sets l.count 1 l.seed;
  streams : l.stream + 2 * l.left ≡ 1 + 2 * l.count;
}

abbrev pub decreases-sets : goal.decreases-sets
decreases-sets l = l.left
