use Rattle.std.proofs.Common.{arith}
use Rattle.environment.proofs.Decimals.{answers_no, decimal-not_empty, decimal-last, decimal-small, decimal-large, empty_test, through}
use Rattle.environment.proofs.numbers.+is_decimal.Goals as goal

pub returns-in_default : goal.returns-in_default
returns-in_default t c = answers_no (decimal-not_empty c.args.text.now c.args.number (omega (arith, c.ranges.number)) c.in_default.ensures.cases)

pub returns-then-last-number : goal.returns-then-last-number
returns-then-last-number t c = answers_no (λ d. c.if-last-number.true (decimal-last c.args.text.now c.in-Some.front.now c.in-Some.last.now c.args.number (omega (arith, c.ranges.number)) c.in-Some.ensures.cases.0 d))

pub returns-then-number-lt10 : goal.returns-then-number-lt10
returns-then-number-lt10 t c = through (empty_test c.in-Some.front.now c.is_empty.result c.is_empty.ensures) (decimal-small c.args.text.now c.in-Some.front.now c.in-Some.last.now c.args.number c.if-number-lt10.true c.in-Some.ensures.cases.0 c.if-last-number.false)

pub returns-else-number-lt10 : goal.returns-else-number-lt10
returns-else-number-lt10 t c = through c.is_decimal.ensures (decimal-large c.args.text.now c.in-Some.front.now c.in-Some.last.now c.args.number c.if-number-lt10.false (omega (arith, c.ranges.number)) c.in-Some.ensures.cases.0 c.if-last-number.false)
