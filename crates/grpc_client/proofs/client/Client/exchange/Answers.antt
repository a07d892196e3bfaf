use Rattle.std.proofs.Common.{[], inr}
use Rattle.std.proofs.lemmas.Result.{err_from_is_err_and}
use Rattle.environment.proofs.Pieces.{Read-nothing}
use Rattle.grpc_client.proofs.Joining.{breaks_after}
use Rattle.grpc_client.proofs.Calling.{unbegun, completed_after, asks_of}
use Rattle.grpc_client.proofs.client.Client.exchange.Goals as goal

pub returns-in_err-begin-clause-asked : goal.returns-in_err-begin-clause-asked
returns-in_err-begin-clause-asked g c =
    let p = err_from_is_err_and c.from_residual.result c.from_residual.ensures.1 in
    rw (p.1, p.2) (inr (unbegun _ _ _ _ _ _ _ _ c.in_err-begin.ensures.err))

pub returns-in_err-finish-clause-asked : goal.returns-in_err-finish-clause-asked
returns-in_err-finish-clause-asked g c =
    let b = c.in_ok-begin.ensures.ok in
    let p = err_from_is_err_and c.from_residual-in_err-finish.result c.from_residual-in_err-finish.ensures.1 in
    rw (p.1, p.2) (inr (breaks_after _ _ _ _ _ _ _ _ _ _ [] b.went b.did (Read-nothing _) b.wrote c.in_err-finish.ensures.err))

pub returns-clause-asked : goal.returns-clause-asked
returns-clause-asked g c =
    asks_of c.answer_of.result _ _ _ _ _ _ _ (completed_after _ _ _ _ _ _ _ _ _ _ _ c.in_ok-begin.ensures.ok c.in_ok-finish.ensures.ok) c.answer_of.ensures
