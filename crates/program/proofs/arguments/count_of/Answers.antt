use Rattle.std.proofs.Common.{◌≡◌, sym, ◌∙◌, arith}
use Rattle.std.proofs.lemmas.Fmt.{decimal_injective}
use Rattle.program.proofs.arguments.count_of.Goals as goal

pub returns-then-count-lt1-clause-none : goal.returns-then-count-lt1-clause-none
returns-then-count-lt1-clause-none c = λ count some few is.
    let most = c.ranges.most.fits in
    let same : c.in_ok-count.count ≡ count = decimal_injective c.in_ok-count.count count (omega (arith, c.in_ok-count.ensures.small)) (omega (arith, few, most)) (sym c.in_ok-count.ensures.some ∙ is) in
    omega (arith, same, some, c.if-count-lt1.true)

pub returns-then-count-most-clause-none : goal.returns-then-count-most-clause-none
returns-then-count-most-clause-none c = λ count some few is.
    let most = c.ranges.most.fits in
    let same : c.in_ok-count.count ≡ count = decimal_injective c.in_ok-count.count count (omega (arith, c.in_ok-count.ensures.small)) (omega (arith, few, most)) (sym c.in_ok-count.ensures.some ∙ is) in
    omega (arith, same, few, c.if-count-most.true)
