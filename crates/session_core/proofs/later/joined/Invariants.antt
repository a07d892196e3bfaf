use Rattle.std.proofs.Common.{◌≡◌, ◌++◌}
use Rattle.session_core.specs.inner.Steps.{list_of}
use Rattle.session_core.proofs.later.joined.Given as goal

-- the calls so far, and those that are left
abbrev pub invariant-loop-served : goal.invariant-loop-served
invariant-loop-served l = l.calls ++ l.served-iterator.rest.items ≡ l.fn.before ++ list_of l.fn.served ++ l.fn.after
