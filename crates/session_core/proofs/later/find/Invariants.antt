use Rattle.session_core.proofs.Laters.{IsFoundIn}
use Rattle.session_core.proofs.later.find.Given as goal

-- of the calls that were looked at
abbrev pub invariant-loop-served : goal.invariant-loop-served
invariant-loop-served l = IsFoundIn l.fn.stream l.before l.at l.after l.served-iterator.rest.items l.fn.calls
