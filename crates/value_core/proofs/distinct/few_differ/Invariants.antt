use Rattle.std.proofs.Common.{◌≡◌, drop}
use Rattle.base_kinds.specs.Values.{all_differ}
use Rattle.value_core.proofs.distinct.few_differ.Given as goal

abbrev pub invariant-loop-n : goal.invariant-loop-n
invariant-loop-n l = all_differ (drop l.n l.values) ≡ all_differ l.values
