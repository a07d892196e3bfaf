use Rattle.std.proofs.Common.{◌≡◌, ◌≤◌, ◌-◌, length, take}
use Rattle.environment.specs.Output.{output_with}
use Rattle.environment.proofs.writing.write_whole.Given as goal

-- the front that is done is what the sink has taken, and it has met no fault
abbrev pub invariant-loop-done : goal.invariant-loop-done
invariant-loop-done g l =
    let seen = g.K.Sink.seen in
    record {
      within : l.done ≤ length l.piece;
      taken : seen l.sink ≡ output_with (take l.done l.piece) (seen l.fn.sink);
    }

abbrev pub decreases-loop-done : goal.decreases-loop-done
decreases-loop-done g l = length l.piece - l.done
