use Rattle.std.proofs.Common.{◌++◌, List, ℕ, ap, sym}
use Rattle.h2_windows.specs.Written.{spelled}
use Rattle.std.proofs.lemmas.Result.{err_from_is_err_and}
use Rattle.h2_windows.proofs.Fronts.{failed_on, failed_first, writes_behind}
use Rattle.h2_windows.proofs.frames.put_frame.Goals as goal

pub returns-in_err-write_whole : goal.returns-in_err-write_whole
unfolding spelled
returns-in_err-write_whole g c = let p = err_from_is_err_and c.from_residual.result c.from_residual.ensures.1 in failed_on c.from_residual.result _ _ _ p.0 p.1 (failed_first _ _ c.head_octets.result c.args.payload.now _ (ap (λ (h : List ℕ). h ++ c.args.payload.now) (sym c.head_octets.ensures)) c.in_err-write_whole.ensures)

pub returns : goal.returns
unfolding spelled
returns g c = writes_behind c.write_whole-2.result _ _ _ c.head_octets.result c.args.payload.now _ (ap (λ (h : List ℕ). h ++ c.args.payload.now) (sym c.head_octets.ensures)) c.in_ok-write_whole.ensures c.write_whole-2.ensures
