use Rattle.std.proofs.Common.{◌≡◌}
use Rattle.benches.proofs.desk.Target.answer_rounds.Given as goal

-- the desk's schema is still the book's
abbrev pub invariant-loop : goal.invariant-loop
invariant-loop l = l.self.port.book.opened.schema ≡ l.self.desk
