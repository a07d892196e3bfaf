use Rattle.std.proofs.Common.{◌≡◌, ◌-◌}
use Rattle.journal_record.specs.inner.Reading.{many_at}
use Rattle.journal_record.proofs.Loops.{with_front}
use Rattle.journal_record.proofs.part.many.Given as goal

abbrev pub invariant-loop : goal.invariant-loop
invariant-loop g l = with_front l.parts (many_at g.T.Part.at (l.count - l.counter) l.rest) ≡ many_at g.T.Part.at l.count l.octets
