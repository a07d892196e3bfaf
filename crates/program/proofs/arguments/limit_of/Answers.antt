use Rattle.std.proofs.Common.{◌≡◌, sym, ◌∙◌, arith, rules}
use Rattle.std.proofs.lemmas.Fmt.{decimal_injective}
use Rattle.program.proofs.arguments.limit_of.Goals as goal

pub returns-then-number-gt4294967295-clause-none : goal.returns-then-number-gt4294967295-clause-none
returns-then-number-gt4294967295-clause-none c = λ limit small is.
    let same : c.in_ok-number.number ≡ limit = decimal_injective c.in_ok-number.number limit (search rules) (omega (arith, small)) (sym c.in_ok-number.ensures.some ∙ c.as_bytes.ensures.value ∙ is) in
    omega (arith, same, small, c.if-number-gt4294967295.true)
