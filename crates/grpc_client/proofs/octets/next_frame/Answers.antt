use Rattle.std.proofs.Common.{arith}
use Rattle.std.proofs.lemmas.Result.{err_from_is_err_and}
use Rattle.grpc_client.proofs.Joining.{stops_later, stops_first, frame_read}
use Rattle.grpc_client.proofs.octets.next_frame.Goals as goal

pub returns-in_err-octets-clause-err : goal.returns-in_err-octets-clause-err
returns-in_err-octets-clause-err g c =
    let p = err_from_is_err_and c.from_residual.result c.from_residual.ensures.1 in
    rw (p.1, p.2) (stops_first _ _ _ c.in_err-octets.ensures.err)

pub returns-in_err-payload-clause-err : goal.returns-in_err-payload-clause-err
returns-in_err-payload-clause-err g c =
    let p = err_from_is_err_and c.from_residual-in_err-payload.result c.from_residual-in_err-payload.ensures.1 in
    rw (p.1, p.2) (stops_later _ _ _ _ _ c.in_ok-octets.ensures.ok.read c.in_err-payload.ensures.err)

pub returns-clause-ok : goal.returns-clause-ok
returns-clause-ok g c =
    frame_read _ c.in_ok-octets.octets c.items.result.now _ _ _ c.in_ok-octets.ensures.ok c.items.ensures c.head_at-head.ensures.fit c.head_at-head.ensures.head (omega arith) c.in_ok-payload.ensures.ok
