use Rattle.std.proofs.lemmas.Result.{err_from_is_err_and}
use Rattle.hpack_block.specs.declared.header.Ended.TheVariants.{Bad}
use Rattle.hpack_block.proofs.FieldLemmas.{err_as}
use Rattle.hpack_block.proofs.field.without_indexing_in.Goals as goal

pub returns-in_err-header-clause-bad : goal.returns-in_err-header-clause-bad
returns-in_err-header-clause-bad c =
    let p = err_from_is_err_and c.from_residual.result c.from_residual.ensures.1 in
    rw (p.1, p.2) (λ bad header next rest is. c.in_err-header.ensures.bad (err_as c.in_err-header.field-0.0 Bad bad) header rest is.0)
