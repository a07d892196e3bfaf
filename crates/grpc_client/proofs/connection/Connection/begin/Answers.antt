use Rattle.std.proofs.Common.{◌≡◌, ◌∙◌, rules}
use Rattle.std.proofs.lemmas.Result.{err_from_is_err_and}
use Rattle.grpc_core.specs.Messages.{framed}
use Rattle.grpc_client.proofs.Opening.{begins, begins_unflushed, begins_unwritten, begins_without_memory, opened_as, octets_as}
use Rattle.grpc_client.proofs.connection.Connection.begin.Goals as goal

pub returns-in_err-octets-clause-err : goal.returns-in_err-octets-clause-err
returns-in_err-octets-clause-err g c =
    let p = err_from_is_err_and c.from_residual.result c.from_residual.ensures.1 in
    rw (p.1, p.2) (begins_without_memory _ _ _ _ _)

pub returns-in_err-frame_message-clause-err : goal.returns-in_err-frame_message-clause-err
returns-in_err-frame_message-clause-err g c =
    let p = err_from_is_err_and c.from_residual-in_err-frame_message.result c.from_residual-in_err-frame_message.ensures.1 in
    rw (p.1, p.2) (begins_without_memory _ _ _ _ _)

pub returns-in_err-write_whole-clause-err : goal.returns-in_err-write_whole-clause-err
returns-in_err-write_whole-clause-err g c =
    let m : c.frame_message.new.out ≡ framed c.args.body.now = search rules in
    let p = err_from_is_err_and c.from_residual-in_err-write_whole.result c.from_residual-in_err-write_whole.ensures.1 in
    rw (p.1, p.2) (begins_unwritten _ _ _ c.args.self.now c.open.new.self c.items.result.now _ _
    (opened_as _ _ _ _ c.args.self.now c.open.new.self c.open.ensures c.next_stream-stream.ensures m)
    (c.items.ensures ∙ octets_as _ _ c.args.self.now _ _ c.in_ok-octets.ensures c.next_stream-stream.ensures) c.in_err-write_whole.ensures)

pub returns-in_err-flush-clause-err : goal.returns-in_err-flush-clause-err
returns-in_err-flush-clause-err g c =
    let m : c.frame_message.new.out ≡ framed c.args.body.now = search rules in
    let p = err_from_is_err_and c.from_residual-in_err-flush.result c.from_residual-in_err-flush.ensures.1 in
    rw (p.1, p.2) (begins_unflushed _ _ _ c.args.self.now c.open.new.self c.items.result.now _ _ _
    (opened_as _ _ _ _ c.args.self.now c.open.new.self c.open.ensures c.next_stream-stream.ensures m)
    (c.items.ensures ∙ octets_as _ _ c.args.self.now _ _ c.in_ok-octets.ensures c.next_stream-stream.ensures) c.in_ok-write_whole.ensures c.in_err-flush.ensures.err)

pub returns-clause-ok : goal.returns-clause-ok
returns-clause-ok g c =
    let m : c.frame_message.new.out ≡ framed c.args.body.now = search rules in
    begins _ _ _ c.args.self.now c.open.new.self _ c.items.result.now _ _ _
    (opened_as _ _ _ _ c.args.self.now c.open.new.self c.open.ensures c.next_stream-stream.ensures m)
    (c.items.ensures ∙ octets_as _ _ c.args.self.now _ _ c.in_ok-octets.ensures c.next_stream-stream.ensures) c.in_ok-write_whole.ensures c.in_ok-flush.ensures.ok
