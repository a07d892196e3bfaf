use Rattle.std.proofs.Common.{refl, subst}
use Rattle.std.proofs.lemmas.List.Concat.{flat_map-append}
use Rattle.h2_windows.specs.Written.{spelled, octets_of}
use Rattle.h2_windows.proofs.Fronts.{failed_first, failed_behind}
use Rattle.environment.specs.Output.{FailedWithin}
use Rattle.h2_send.specs.Lines.{Line, told}
use Rattle.h2_send.specs.Acting.{acted, flushed, replies}
use Rattle.h2_send.proofs.Closing.{starved, unwritten}
use Rattle.h2_send.proofs.wire.respond.Goals as goal

pub returns-in_err-tell : goal.returns-in_err-tell
returns-in_err-tell g c = starved _ (acted c.args.event.now c.args.connection.now) _ _ _ c.from_residual.result c.from_residual.ensures.1 c.in_err-tell.ensures.memory refl

pub returns-in_err-put_replies : goal.returns-in_err-put_replies
returns-in_err-put_replies g c =
    let line = told c.args.event.now c.args.connection.now in
    unwritten _ (acted c.args.event.now c.args.connection.now) _ _ _ c.from_residual-in_err-put_replies.result c.from_residual-in_err-put_replies.ensures.1 (failed_first _ _ (octets_of (replies c.args.event.now)) (octets_of (flushed line).frames) _ (flat_map-append spelled (replies c.args.event.now) (flushed line).frames) c.in_err-put_replies.ensures)

pub returns-in_err-flush : goal.returns-in_err-flush
returns-in_err-flush g c =
    let line = told c.args.event.now c.args.connection.now in
    let failed = subst (λ (l : Line). FailedWithin (octets_of (flushed l).frames) (g.S.Sink.seen c.put_replies.new.sink) (g.S.Sink.seen c.flush.new.sink)) c.in_ok-tell.ensures.ok c.in_err-flush.ensures.writes in
    unwritten _ (acted c.args.event.now c.args.connection.now) _ _ _ c.from_residual-in_err-flush.result c.from_residual-in_err-flush.ensures.1 (failed_behind _ _ _ (octets_of (replies c.args.event.now)) (octets_of (flushed line).frames) _ (flat_map-append spelled (replies c.args.event.now) (flushed line).frames) c.in_ok-put_replies.ensures failed)
