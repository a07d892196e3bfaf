use Rattle.std.proofs.Common.{◌≡◌, sym, ◌∙◌, arith}
use Rattle.std.proofs.lemmas.Fmt.{decimal_injective}
use Rattle.ask_command.proofs.request.lasting.Goals as goal

pub returns-then-seconds-gt-MOST_SECONDS-clause-none : goal.returns-then-seconds-gt-MOST_SECONDS-clause-none
returns-then-seconds-gt-MOST_SECONDS-clause-none c span is =
    let same : c.in_ok-seconds.seconds ≡ is.0 = decimal_injective c.in_ok-seconds.seconds is.0 (omega (arith, c.in_ok-seconds.ensures.small)) (omega (arith, is.1)) (sym c.in_ok-seconds.ensures.some ∙ c.as_bytes.ensures.value ∙ is.2) in
    omega (arith, same, is.1, c.if-seconds-gt-MOST_SECONDS.true)
