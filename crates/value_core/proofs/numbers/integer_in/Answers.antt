use Rattle.std.proofs.Common.{arith}
use Rattle.value_core.proofs.Integers.{large_positive, no_negative, negative_zero, large_negative}
use Rattle.value_core.proofs.Outcomes.{none_by}
use Rattle.value_core.proofs.numbers.integer_in.Goals as goal

pub returns-in-Some-natural_of-clause-none : goal.returns-in-Some-natural_of-clause-none
returns-in-Some-natural_of-clause-none c =
    let found = c.in-Some-natural_of in
    none_by _ (large_positive c.args.octets.now found.number c.in-None.ensures found.ensures.some found.ensures.small) c.with_sign.ensures.none

pub returns-then-magnitude-eq0-clause-none : goal.returns-then-magnitude-eq0-clause-none
returns-then-magnitude-eq0-clause-none c = negative_zero c.args.octets.now c.in-Some.digits.now c.in-Some-natural_of-2.magnitude c.in-Some.ensures c.in-Some-natural_of-2.ensures.some (omega arith)

pub returns-else-magnitude-eq0-clause-none : goal.returns-else-magnitude-eq0-clause-none
returns-else-magnitude-eq0-clause-none c =
    let found = c.in-Some-natural_of-2 in
    none_by _ (large_negative c.args.octets.now c.in-Some.digits.now found.magnitude c.in-Some.ensures found.ensures.some found.ensures.small) c.with_sign-else-magnitude-eq0.ensures.none

pub returns-in-None-natural_of-2-clause-none : goal.returns-in-None-natural_of-2-clause-none
returns-in-None-natural_of-2-clause-none c = no_negative c.args.octets.now c.in-Some.digits.now c.in-Some.ensures c.in-None-natural_of-2.ensures.none
