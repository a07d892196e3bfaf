use Rattle.std.proofs.Common.{◌≡◌, Ok, Err, inr, refl, subst}
use Rattle.schema_text.specs.Schemas.{IsFaultOf, schema_of}
use Rattle.program.proofs.load_command.schema_of_sets.Goals as goal

pub returns-in-Ok-clause-ok : goal.returns-in-Ok-clause-ok
returns-in-Ok-clause-ok c = subst (λ text. schema_of text ≡ Ok c.in-Ok.schema) c.schema_text.ensures c.in-Ok.ensures.ok

pub returns-in-Err-Fault-clause-err : goal.returns-in-Err-Fault-clause-err
returns-in-Err-Fault-clause-err c =
    let fault = subst (λ e. IsFaultOf e (schema_of c.schema_text.result.now)) c.in-Err-Fault.field-0-is c.in-Err-Fault.ensures.refused in
    inr (record { is = refl; fault = c.in-Err-Fault.field-0-0; schema_is = subst (λ text. schema_of text ≡ Err c.in-Err-Fault.field-0-0) c.schema_text.ensures fault })
