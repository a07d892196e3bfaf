use Rattle.std.proofs.Common.{FitsSigned, w64, rules, sym, ◌∙◌}
use Rattle.std.proofs.lemmas.Int.{to_z-of_z}
use Rattle.value_core.proofs.Integers.{wide_integer}
use Rattle.value_core.proofs.key_reading.read_int.Goals as goal

pub returns-then-not-fits_signed-clause-err : goal.returns-then-not-fits_signed-clause-err
returns-then-not-fits_signed-clause-err c =
    let small : FitsSigned w64 c.in-Some.number = search rules in
    let fits = simp to_z-of_z at c.fits_signed.ensures in
    wide_integer c.args.octets.now c.in-Some.number c.args.width c.in-Some.ensures.some c.in-Some.ensures.held (sym fits ∙ c.if-not-fits_signed.true)
