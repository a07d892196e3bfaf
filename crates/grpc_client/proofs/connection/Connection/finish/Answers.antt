use Rattle.std.proofs.Common.{[]}
use Rattle.std.proofs.lemmas.Result.{err_from_is_err_and}
use Rattle.grpc_client.proofs.Joining.{advances_nothing, advances_then, breaks_after}
use Rattle.grpc_client.proofs.connection.Connection.finish.Goals as goal

pub frames-init : goal.frames-init
frames-init g c = advances_nothing _ _ _ c.requires

pub advance-requires : goal.advance-requires
advance-requires g c = c.frames.invariant.paced

pub frames-preserved : goal.frames-preserved
frames-preserved g c = advances_then _ _ _ _ _ _ _ _ _ c.frames.invariant c.in_ok-advance.ensures.ok

pub returns-in_err-advance-clause-err : goal.returns-in_err-advance-clause-err
returns-in_err-advance-clause-err g c =
    let i = c.frames.invariant in
    let p = err_from_is_err_and c.from_residual.result c.from_residual.ensures.1 in
    rw (p.1, p.2) (breaks_after _ [] _ _ _ _ _ _ _ _ i.came i.went i.did i.read i.wrote c.in_err-advance.ensures.err)
