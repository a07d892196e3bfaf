use Rattle.std.proofs.Common.{◌≡◌, ◌-◌, ◌*◌, ◌^◌}
use Rattle.value_core.proofs.numbers.with_zeros.Given as goal

-- the zeros that are left make the same number
abbrev pub invariant-loop : goal.invariant-loop
invariant-loop l = l.longer * 10 ^ (l.zeros - l.counter) ≡ l.fn.number * 10 ^ l.zeros
