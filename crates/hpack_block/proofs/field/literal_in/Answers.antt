use Rattle.std.proofs.lemmas.Result.{err_from_is_err_and}
use Rattle.hpack_block.specs.declared.header.Ended.TheVariants.{Bad}
use Rattle.hpack_block.proofs.FieldLemmas.{err_as, literal_none, literal_no_name, literal_no_value, literal_is}
use Rattle.hpack_block.proofs.field.literal_in.Goals as goal

pub returns-in_default-clause-bad : goal.returns-in_default-clause-bad
returns-in_default-clause-bad c = λ _. literal_none c.args.bits c.args.table.now c.args.octets.now c.in_default.ensures.value

pub returns-in_err-name-clause-bad : goal.returns-in_err-name-clause-bad
returns-in_err-name-clause-bad c =
    let p = err_from_is_err_and c.from_residual.result c.from_residual.ensures.1 in
    rw (p.1, p.2) (λ bad.
    literal_no_name c.args.bits c.args.table.now c.args.octets.now c.in-Some.index c.in-Some.after.now c.in-Some.ensures.value (c.in_err-name.ensures.bad (err_as c.in_err-name.field-0.0 Bad bad)))

pub returns-in-Err-clause-bad : goal.returns-in-Err-clause-bad
returns-in-Err-clause-bad c =
    λ bad.
    literal_no_value c.args.bits c.args.table.now c.args.octets.now c.in-Some.index c.in-Some.after.now c.in_ok-name.name c.in_ok-name.last.now c.in-Some.ensures.value
    c.in_ok-name.ensures.ok (c.in-Err.ensures.bad (err_as c.in-Err.ended Bad bad))

pub returns-in-Ok-clause-ok : goal.returns-in-Ok-clause-ok
returns-in-Ok-clause-ok c =
    literal_is c.args.bits c.args.table.now c.args.octets.now c.in-Some.index c.in-Some.after.now c.in_ok-name.name c.in_ok-name.last.now c.in-Ok.value c.in-Ok.rest.now
    c.in-Some.ensures.value c.in_ok-name.ensures.ok c.in-Ok.ensures.ok
