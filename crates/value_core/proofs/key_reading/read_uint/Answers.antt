use Rattle.std.proofs.Common.{sym, ◌∙◌}
use Rattle.value_core.proofs.Integers.{wide_natural}
use Rattle.value_core.proofs.key_reading.read_uint.Goals as goal

pub returns-then-not-is_below_power-clause-err : goal.returns-then-not-is_below_power-clause-err
returns-then-not-is_below_power-clause-err c = wide_natural c.args.octets.now c.in-Some.number c.args.width c.in-Some.ensures.some c.in-Some.ensures.small (sym c.is_below_power.ensures ∙ c.if-not-is_below_power.true)
