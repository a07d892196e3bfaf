use Rattle.std.proofs.lemmas.Result.{err_from_is_err_and}
use Rattle.grpc_client.proofs.Joining.{unheard, unanswered, unflushed, advances}
use Rattle.grpc_client.proofs.connection.Connection.advance.Goals as goal

pub returns-in_err-reply-clause-err : goal.returns-in_err-reply-clause-err
returns-in_err-reply-clause-err g c =
    let p = err_from_is_err_and c.from_residual.result c.from_residual.ensures.1 in
    rw (p.1, p.2) (unheard _ _ _ _ _ c.in_err-reply.ensures.err)

pub returns-in_err-put-clause-err : goal.returns-in_err-put-clause-err
returns-in_err-put-clause-err g c =
    let p = err_from_is_err_and c.from_residual-in_err-put.result c.from_residual-in_err-put.ensures.1 in
    rw (p.1, p.2) (unanswered c.in_ok-reply.reply _ _ _ _ _ _ c.in_ok-reply.ensures.ok c.in_err-put.ensures)

pub returns-in_err-flush-clause-err : goal.returns-in_err-flush-clause-err
returns-in_err-flush-clause-err g c =
    let p = err_from_is_err_and c.from_residual-in_err-flush.result c.from_residual-in_err-flush.ensures.1 in
    rw (p.1, p.2) (unflushed c.in_ok-reply.reply _ _ _ _ _ _ _ c.in_ok-reply.ensures.ok c.in_ok-put.ensures c.in_err-flush.ensures.err)

pub returns-clause-ok : goal.returns-clause-ok
returns-clause-ok g c = advances c.in_ok-reply.reply _ _ _ _ _ _ _ _ c.in_ok-reply.ensures.ok c.in_ok-put.ensures c.in_ok-flush.ensures.ok
