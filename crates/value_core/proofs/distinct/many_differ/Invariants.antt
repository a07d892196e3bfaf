use Rattle.std.proofs.Common.{◌≡◌, ◌≤◌, true, drop, length}
use Rattle.std.specs.List.{list_any}
use Rattle.std.specs.BTreeSet.{contains}
use Rattle.base_kinds.specs.Values.{same_scalar, all_differ}
use Rattle.value_core.specs.declared.scalar.Scalar.{Scalar}
use Rattle.value_core.specs.contracts.scalar.ScalarOrd.TheImpl.{ghosts}
use Rattle.value_core.specs.Scalars.{value_of}
use Rattle.value_core.proofs.distinct.many_differ.Given as goal

-- those behind differ, and the set has just them
abbrev pub invariant-loop-n : goal.invariant-loop-n
invariant-loop-n l = record {
  inside : l.n ≤ length l.values;
  differ : all_differ (drop l.n l.values) ≡ true;
  members : (q : Scalar) → contains ghosts.cmp l.behind q ≡ list_any (same_scalar (value_of q)) (drop l.n l.values);
}
