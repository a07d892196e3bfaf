use Rattle.std.proofs.Common.{get_or, refl, arith}
use Rattle.value_core.proofs.Digits.{reads_large}
use Rattle.value_core.proofs.Outcomes.{none_from}
use Rattle.value_core.proofs.numbers.with_digits.Goals as goal

pub returns-in_err-longer-clause-none : goal.returns-in_err-longer-clause-none
returns-in_err-longer-clause-none c = none_from _ _ (reads_large c.args.number c.loop-octet.longer (get_or c.args.octets.now c.loop-octet.octet-index 0) c.args.octets.now c.loop-octet.octet-index (omega arith) refl c.loop-octet.invariant.reads c.in_err-longer.ensures.none)
