use Rattle.std.proofs.Common.{◌≡◌, List, ℕ, ◌++◌, length}
use Rattle.environment.specs.Output.{Wrote}
use Rattle.h2_windows.specs.Written.{octets_of}
use Rattle.h2_windows.specs.Sending.{data_frames}
use Rattle.h2_windows.proofs.frames.put_data.Given as goal

-- some of the frames are written, and those of the rest are left
abbrev pub invariant-loop-rest : goal.invariant-loop-rest
invariant-loop-rest g l =
    let seen = g.S.Sink.seen in
    record {
      done : List ℕ;
      parts : octets_of (data_frames l.stream l.octets) ≡ done ++ octets_of (data_frames l.stream l.rest);
      wrote : Wrote done (seen l.fn.sink) (seen l.sink);
    }

abbrev pub decreases-loop-rest : goal.decreases-loop-rest
decreases-loop-rest g l = length l.rest
