use Rattle.environment.proofs.numbers.+is_decimal.Given as goal

-- a digit less each time
abbrev pub decreases-is_decimal : goal.decreases-is_decimal
decreases-is_decimal l = l.number
