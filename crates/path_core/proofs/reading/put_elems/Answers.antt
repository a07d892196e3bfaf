use Rattle.std.proofs.Common.{length, sym, ◌∙◌}
use Rattle.std.proofs.lemmas.Bool.{eqb-false}
use Rattle.std.proofs.lemmas.Result.{err_from_is_err_and}
use Rattle.path_core.proofs.Passed.{passed_on}
use Rattle.path_core.proofs.Elems.{no_elem_left}
use Rattle.path_core.proofs.reading.put_elems.Goals as goal

pub returns-in_err-elem-clause-bad : goal.returns-in_err-elem-clause-bad
returns-in_err-elem-clause-bad c =
    let p = err_from_is_err_and c.from_residual.result c.from_residual.ensures.1 in
    rw (p.1, p.2) (λ fault. no_elem_left c.args.text.now c.loop-rest.path c.loop-rest.rest.now c.requires.below c.loop-rest.invariant.spelled c.loop-rest.invariant.elems c.loop-rest.invariant.ended
    (eqb-false (length c.loop-rest.rest.now) 0 (sym c.is_empty.ensures ∙ c.loop-rest-test.true)) (c.in_err-elem.ensures.bad (passed_on _ _ fault)))
