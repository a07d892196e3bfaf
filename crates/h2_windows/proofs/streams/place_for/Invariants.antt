use Rattle.std.proofs.Common.{◌≡◌, ℕ, ◌<◌, false, get_or}
use Rattle.std.specs.Prelude.{nat_lt}
use Rattle.h2_windows.specs.declared.stream.Stream.{Stream}
use Rattle.h2_windows.proofs.streams.place_for.Given as goal

-- no earlier stream has a higher number
abbrev pub invariant-loop-place : goal.invariant-loop-place
invariant-loop-place l = (k : ℕ) (d : Stream) → k < l.place → nat_lt l.id (get_or l.streams k d).id ≡ false
