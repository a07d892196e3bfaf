use Rattle.std.proofs.Common.{◌≡◌, ◌++◌}
use Rattle.session_core.specs.Deeds.{others_than}
use Rattle.session_core.proofs.answering.others_than.Given as goal

-- those so far, and those of the calls that are left
abbrev pub invariant-loop-served : goal.invariant-loop-served
invariant-loop-served l = l.others ++ others_than l.fn.stream l.served-iterator.rest.items ≡ others_than l.fn.stream l.fn.calls
