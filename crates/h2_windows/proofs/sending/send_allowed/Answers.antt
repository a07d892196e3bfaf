use Rattle.std.proofs.Common.{refl, ◌++◌, ◌<◌, ap, sym, append_assoc, length, ◌∙◌, arith, ◌-ℤ◌, pos}
use Rattle.h2_windows.specs.Sending.{Sent}
use Rattle.std.proofs.lemmas.Result.{err_from_is_err_and}
use Rattle.h2_windows.proofs.Fronts.{failed_on, failed_next, wrote_both}
use Rattle.h2_windows.proofs.Turns.{with_parts, step, frames_step, streams_step, left_step}
use Rattle.h2_windows.proofs.sending.send_allowed.Goals as goal

pub returns-in_err-put_data-clause-writes : goal.returns-in_err-put_data-clause-writes
returns-in_err-put_data-clause-writes g c =
    let l = c.loop-stream in
    let n = c.share-count.result in
    let within : l.stream-index < length l.streams = omega (arith, c.loop-stream-test.true, l.auto.streams) in
    let p = err_from_is_err_and c.from_residual.result c.from_residual.ensures.1 in failed_on c.from_residual.result _ _ _ p.0 p.1 (failed_next _ _ _ l.invariant.done _ _ _ (frames_step c.args.initial l.streams c.args.streams.now l.stream-index c.stream-item.result within l.auto.streams l.invariant.left l.window (l.window -ℤ pos n) n c.share-count.ensures.count refl _ l.invariant.done c.octets.result.now c.octets.ensures l.invariant.parts) l.invariant.wrote c.in_err-put_data.ensures)

pub loop-stream-preserved : goal.loop-stream-preserved
loop-stream-preserved g c =
    let l = c.loop-stream in
    let n = c.share-count.result in
    let i = l.invariant in
    let within : l.stream-index < length l.streams = omega (arith, c.loop-stream-test.true, l.auto.streams) in
    record {
      done = i.done ++ _;
      parts = frames_step c.args.initial l.streams c.args.streams.now l.stream-index c.stream-item.result within l.auto.streams i.left l.window c.spend.new.self n c.share-count.ensures.count c.spend.ensures _ i.done c.octets.result.now c.octets.ensures i.parts ∙ sym (append_assoc i.done _ _);
      wrote = wrote_both _ _ _ i.done _ _ refl i.wrote c.in_ok-put_data.ensures;
      window = i.window ∙ ap (λ (r : Sent). r.window) (step c.args.initial l.streams c.args.streams.now l.stream-index c.stream-item.result within l.auto.streams i.left l.window c.spend.new.self n c.share-count.ensures.count c.spend.ensures);
      streams = streams_step c.args.initial l.streams c.args.streams.now l.stream-index c.stream-item.result within l.auto.streams i.left l.window c.spend.new.self n c.share-count.ensures.count c.spend.ensures _ _ (with_parts n _ _ _ c.spend-in-loop-stream.ensures c.advance.ensures) i.streams;
      left = left_step c.args.initial l.streams c.args.streams.now l.stream-index c.stream-item.result within l.auto.streams i.left l.window c.spend.new.self n c.share-count.ensures.count c.spend.ensures _;
    }
