use Rattle.std.proofs.Common.{◌++◌, ◌<◌, sym, append_assoc, length, ◌∙◌, arith, rules, refl}
use Rattle.h2_windows.specs.Written.{octets_of}
use Rattle.h2_windows.specs.Sending.{data_frames}
use Rattle.std.proofs.lemmas.Result.{err_from_is_err_and}
use Rattle.h2_windows.proofs.Fronts.{failed_on, failed_next, wrote_both}
use Rattle.h2_windows.proofs.Payloads.{next_data}
use Rattle.h2_windows.proofs.frames.put_data.Goals as goal

pub returns-in_err-put_frame : goal.returns-in_err-put_frame
returns-in_err-put_frame g c =
    let i = c.loop-rest.invariant in
    let some : 0 < length c.loop-rest.rest.now = search rules in
    let p = err_from_is_err_and c.from_residual.result c.from_residual.ensures.1 in failed_on c.from_residual.result _ _ _ p.0 p.1 (failed_next _ _ _ i.done _ (octets_of (data_frames c.args.stream c.split_at.result.1.now)) _ (next_data c.args.stream c.args.octets.now c.loop-rest.rest.now c.split_at.result.0.now c.split_at.result.1.now i.done c.min.result (omega arith) some c.split_at.ensures.front c.split_at.ensures.back i.parts) i.wrote c.in_err-put_frame.ensures)

pub loop-rest-preserved : goal.loop-rest-preserved
loop-rest-preserved g c =
    let i = c.loop-rest.invariant in
    let some : 0 < length c.loop-rest.rest.now = search rules in
    record {
      done = i.done ++ _;
      parts = next_data c.args.stream c.args.octets.now c.loop-rest.rest.now c.split_at.result.0.now c.split_at.result.1.now i.done c.min.result (omega arith) some c.split_at.ensures.front c.split_at.ensures.back i.parts ∙ sym (append_assoc i.done _ _);
      wrote = wrote_both _ _ _ i.done _ _ refl i.wrote c.in_ok-put_frame.ensures;
    }
