use Rattle.std.proofs.Common.{arith}
use Rattle.value_core.proofs.Ranges.{wide}
use Rattle.value_core.proofs.shapes.is_below_power.Goals as goal

pub returns-then-places-ge64 : goal.returns-then-places-ge64
returns-then-places-ge64 c = wide c.args.number c.args.places (omega arith) (omega arith)
