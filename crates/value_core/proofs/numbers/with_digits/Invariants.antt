use Rattle.std.proofs.Common.{◌^◌, ◌<◌}
use Rattle.value_core.proofs.Digits.{ReadsDigits}
use Rattle.value_core.proofs.numbers.with_digits.Given as goal

-- what is read so far is a number of 64 bits
abbrev pub invariant-loop-octet : goal.invariant-loop-octet
invariant-loop-octet l = record { reads : ReadsDigits l.fn.number l.longer l.octets l.octet-index; small : l.longer < 2 ^ 64 }
