use Rattle.std.proofs.Common.{◌≡◌, drop}
use Rattle.std.specs.List.{list_any}
use Rattle.base_kinds.specs.Values.{same_scalar}
use Rattle.value_core.proofs.distinct.has_same.Given as goal

-- none so far is equal to it
abbrev pub invariant-loop-other : goal.invariant-loop-other
invariant-loop-other l = list_any (same_scalar l.value) (drop l.other-index l.others) ≡ list_any (same_scalar l.value) l.others
