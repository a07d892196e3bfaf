use Rattle.std.proofs.Common.{rules, ℕ, ◌≡◌, ◌≤◌, ◌<◌, ◌+◌, ◌∙◌, arith, length, subst}
use Rattle.disk_model.proofs.Fronts.{front_more, more_length}
use Rattle.disk_model.proofs.Progress.{reads_on, reads_stop_as, read_as}
use Rattle.disk_model.proofs.reading.read_part.Goals as goal

pub returns-in_err-read_on-clause-calls : goal.returns-in_err-read_on-clause-calls
returns-in_err-read_on-clause-calls g c =
    let was = c.loop-piece.invariant in
    reads_stop_as ℕ _ _ _ _ _ _ _ _ _ _ _ was.keeps (omega (arith, c.loop-piece-test.true)) was.counted c.in_err-read_on.ensures.calls c.from_residual-in_err-read_on.ensures.1

pub loop-piece-preserved : goal.loop-piece-preserved
loop-piece-preserved g c =
    let was = c.loop-piece.invariant in
    let read = c.in_ok-read_on.ensures in
    let long : length c.read_on.new.octets.items ≡ length c.loop-piece.octets.items + c.in_ok-read_on.field-0 = more_length _ _ _ _ (omega (arith, read.more.0)) read.more.1 in
    record {
      front = front_more _ _ _ _ _ _ _ _ _ was.keeps (omega arith) was.front read.read (omega (arith, read.more.0)) (omega (arith, read.more.0, c.loop-piece-test.true, was.within)) read.more.1;
      within = omega (arith, read.more.0, c.loop-piece-test.true, was.within, long);
      keeps = read.keeps ∙ was.keeps;
      room = omega (arith, c.read_on.auto.piece, was.room);
      counted = read_as _ _ _ _ _ _ _ long (reads_on _ _ _ _ _ _ _ _ was.keeps (omega (arith, c.loop-piece-test.true)) was.counted _ _ _ _ was.room (omega arith) (omega arith) read.calls read.fills);
      quiet = read.quiet (λ bad. search (rules, bad)) ∙ was.quiet;
    }
