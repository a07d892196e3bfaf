use Rattle.std.proofs.Common.{◌*◌, arith}
use Rattle.value_core.proofs.Powers.{zeros_more, zeros_large, unless_held}
use Rattle.value_core.proofs.Outcomes.{none_from}
use Rattle.value_core.proofs.numbers.with_zeros.Goals as goal

pub returns-in_err-longer-clause-none : goal.returns-in_err-longer-clause-none
returns-in_err-longer-clause-none c = none_from _ _ (zeros_large c.args.number c.loop.longer c.args.zeros c.loop.counter (omega arith) c.loop.invariant (unless_held (c.loop.longer * 10) c.in_err-longer.ensures))

pub loop-preserved : goal.loop-preserved
loop-preserved c = zeros_more c.args.number c.loop.longer _ c.args.zeros c.loop.counter (omega arith) c.in_ok-longer.ensures.1 c.loop.invariant
