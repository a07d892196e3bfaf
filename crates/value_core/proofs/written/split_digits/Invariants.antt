use Rattle.value_core.proofs.Glyphs.{IsWrittenFrom}
use Rattle.value_core.proofs.written.split_digits.Given as goal

abbrev pub invariant-loop-at : goal.invariant-loop-at
invariant-loop-at l = IsWrittenFrom l.at l.digits l.fn.number l.whole

abbrev pub decreases-loop-at : goal.decreases-loop-at
decreases-loop-at l = l.at
