use Rattle.std.proofs.Common.{◌≡◌, ℕ, ◌<◌, false, get_or}
use Rattle.h2_windows.specs.Streams.{is_stream}
use Rattle.h2_windows.specs.declared.stream.Stream.{Stream}
use Rattle.h2_windows.proofs.streams.place_of.Given as goal

-- no earlier stream has the number
abbrev pub invariant-loop-place : goal.invariant-loop-place
invariant-loop-place l = (k : ℕ) (d : Stream) → k < l.place → is_stream l.id (get_or l.streams k d) ≡ false
