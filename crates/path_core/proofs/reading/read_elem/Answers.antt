use Rattle.std.proofs.Common.{length, sym, ◌∙◌}
use Rattle.std.proofs.lemmas.Bool.{eqb-true, iff_false}
use Rattle.std.proofs.lemmas.List.{nil_from_length}
use Rattle.std.proofs.lemmas.Result.{err_from_is_err_and}
use Rattle.path_core.proofs.Passed.{passed_on}
use Rattle.path_core.proofs.Elems.{elem_name, elem_without_name, elem_keys, elem_ended}
use Rattle.path_core.proofs.reading.read_elem.Goals as goal

pub returns-in_err-name-clause-bad : goal.returns-in_err-name-clause-bad
returns-in_err-name-clause-bad c =
    let p = err_from_is_err_and c.from_residual.result c.from_residual.ensures.1 in
    rw (p.1, p.2) (λ fault elem rest at. c.in_err-name.ensures.bad (passed_on _ _ fault) elem.name _ (elem_name c.args.text.now c.in-Some.begun.now c.in-Some.ensures.some elem rest at))

pub returns-then-is_empty-clause-bad : goal.returns-then-is_empty-clause-bad
returns-then-is_empty-clause-bad c fault = elem_without_name c.args.text.now c.in-Some.begun.now _ c.in_ok-name.named.now c.in-Some.ensures.some c.in_ok-name.ensures.ok
    (sym c.octets.ensures.value ∙ nil_from_length c.octets.result.now (eqb-true (length c.octets.result.now) 0 (sym c.is_empty.ensures ∙ c.if-is_empty.true)))

pub returns-in-Err-clause-bad : goal.returns-in-Err-clause-bad
returns-in-Err-clause-bad c fault elem rest at = c.in-Err.ensures.bad (passed_on _ _ fault) elem.keys rest (elem_keys c.args.text.now c.in-Some.begun.now _ c.in_ok-name.named.now c.in-Some.ensures.some c.in_ok-name.ensures.ok elem rest at)

pub returns-else-ends_elem-clause-bad : goal.returns-else-ends_elem-clause-bad
returns-else-ends_elem-clause-bad c fault = elem_ended c.args.text.now c.in-Some.begun.now _ c.in_ok-name.named.now _ c.in-Ok.rest.now c.in-Some.ensures.some c.in_ok-name.ensures.ok c.in-Ok.ensures.ok
    (iff_false c.ends_elem.ensures c.if-ends_elem.false)
