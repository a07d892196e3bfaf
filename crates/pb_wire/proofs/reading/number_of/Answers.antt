use Rattle.std.proofs.Common.{◌≤◌, ◌^◌, sym, arith, drop}
use Rattle.base_lists.specs.SevenBits.{number_of_groups}
use Rattle.pb_wire.proofs.VarintLemmas.{value_in-large}
use Rattle.pb_wire.proofs.reading.number_of.Goals as goal

pub returns-then-value : goal.returns-then-value
returns-then-value c =
    let large : 2 ^ 57 ≤ number_of_groups (drop c.loop-at.at c.args.octets.now) = omega (arith, c.loop-at.invariant.so_far) in
    sym (value_in-large c.args.octets.now c.loop-at.at (omega arith) c.loop-at.invariant.in_range large)
