use Rattle.std.proofs.Common.{◌≡◌}
use Rattle.test_desk.proofs.calls.assert_each.Given as goal

-- the desk's schema is still the book's
abbrev pub invariant-loop-call : goal.invariant-loop-call
invariant-loop-call g l = l.target.port.book.opened.schema ≡ l.target.desk
