use Rattle.std.proofs.Common.{FitsSigned, w64, rules, arith}
use Rattle.std.proofs.lemmas.Int.{to_z-of_z}
use Rattle.value_core.proofs.DecimalTexts.{unread, one_written}
use Rattle.value_core.proofs.Outcomes.{none_from}
use Rattle.value_core.proofs.decimals.read_written.Goals as goal

pub returns-in_err-digits-clause-none : goal.returns-in_err-digits-clause-none
returns-in_err-digits-clause-none c = none_from _ _ (unread c.args.places c.args.octets.now (omega arith) c.in_err-digits.ensures.none)

pub returns-clause-some : goal.returns-clause-some
returns-clause-some c digits held written =
    let fits : FitsSigned w64 c.in_ok-digits.digits = search rules in
    simp to_z-of_z (one_written c.args.places c.args.octets.now digits c.in_ok-digits.digits (omega arith) c.in_ok-digits.ensures.some held written)
