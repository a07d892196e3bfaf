use Rattle.std.proofs.Common.{ap, arith, ◌∙◌, take, drop, length-drop}
use Rattle.std.proofs.lemmas.List.{take_rest}
use Rattle.environment.specs.Output.{Output, output_with}
use Rattle.environment.proofs.Pieces.{output_with-add}
use Rattle.environment.proofs.writing.write_whole.Goals as goal

pub loop-done-preserved : goal.loop-done-preserved
loop-done-preserved g c =
    let piece = c.args.piece.now in
    let done = c.loop-done.done in
    let n = c.in_ok-done.field-0 in
    let start = g.K.Sink.seen c.args.sink.now in
    let more = rw take_rest at c.in_ok-done.ensures.octets in
    record {
      within = omega (arith, c.in_ok-done.ensures.bound, length-drop done piece);
      taken = more ∙ ap (λ (o : Output). output_with (take n (drop done piece)) o) c.loop-done.invariant.taken ∙ output_with-add start piece done n;
    }
