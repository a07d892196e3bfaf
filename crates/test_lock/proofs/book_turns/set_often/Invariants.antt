use Rattle.std.proofs.Common.{◌≡◌}
use Rattle.test_lock.proofs.book_turns.set_often.Given as goal

abbrev pub invariant-loop-now : goal.invariant-loop-now
invariant-loop-now g l = record { same : l.visit.book ≡ l.fn.visit.book; shared : l.visit.is_alone ≡ l.fn.visit.is_alone }
