use Rattle.std.proofs.Common.{ap, arith, Err}
use Rattle.std.proofs.lemmas.Result.{err_from_is_err_and}
use Rattle.h2_events.specs.declared.event.RecvFault.{RecvFault}
use Rattle.grpc_client.proofs.Joining.{fault_heard}
use Rattle.grpc_client.proofs.connection.Connection.hear.Goals as goal

pub returns-in_err-event-clause-err : goal.returns-in_err-event-clause-err
returns-in_err-event-clause-err c =
    let p = err_from_is_err_and c.from_residual.result c.from_residual.ensures.1 in
    rw (p.1, p.2) (fault_heard _ _ _ (λ code is. c.in_err-event.ensures.fault code (ap (λ (w : RecvFault). Err w) is)))

pub returns-in_err-event-clause-fit : goal.returns-in_err-event-clause-fit
returns-in_err-event-clause-fit c = λ i. omega (arith, c.type_inv.payload i)
