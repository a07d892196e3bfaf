use Rattle.std.proofs.Common.{[], length, ap, sym, ◌∙◌}
use Rattle.std.proofs.lemmas.Bool.{eqb-false}
use Rattle.std.proofs.lemmas.Result.{err_from_is_err_and}
use Rattle.path_core.proofs.Passed.{passed_on}
use Rattle.path_core.proofs.ValueTexts.{value_at, value_ends}
use Rattle.path_core.proofs.reading.read_value_text.Goals as goal

pub returns-in_err-value-clause-bad : goal.returns-in_err-value-clause-bad
returns-in_err-value-clause-bad c =
    let p = err_from_is_err_and c.from_residual.result c.from_residual.ensures.1 in
    rw (p.1, p.2) (λ fault value is. c.in_err-value.ensures.bad (passed_on _ _ fault) value [] (value_at c.args.text.now value is))

pub returns-then-not-is_empty-clause-bad : goal.returns-then-not-is_empty-clause-bad
returns-then-not-is_empty-clause-bad c fault other is =
    let none = value_ends c.args.text.now c.in_ok-value.value c.in_ok-value.rest.now other c.in_ok-value.ensures.ok is in
    eqb-false (length c.in_ok-value.rest.now) 0 (sym c.is_empty.ensures ∙ c.if-not-is_empty.true) (ap length none)
