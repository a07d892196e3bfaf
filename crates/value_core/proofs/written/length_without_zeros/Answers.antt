use Rattle.std.proofs.Common.{arith}
use Rattle.value_core.proofs.Glyphs.{zero_dropped, other_kept}
use Rattle.value_core.proofs.written.length_without_zeros.Goals as goal

pub loop-length-preserved : goal.loop-length-preserved
loop-length-preserved c = record { within = omega arith; same = zero_dropped c.args.digits.now c.loop-length.length (omega arith) (omega arith) (omega arith) c.loop-length.invariant.same }

pub returns-else-digits-length-eq48-clause-value : goal.returns-else-digits-length-eq48-clause-value
returns-else-digits-length-eq48-clause-value c = other_kept c.args.digits.now c.loop-length.length (omega arith) (omega arith) (λ e. omega (arith, e)) c.loop-length.invariant.same
