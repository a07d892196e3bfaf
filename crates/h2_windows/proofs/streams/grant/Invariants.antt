use Rattle.std.proofs.Common.{◌≡◌, ◌++◌, take, drop}
use Rattle.h2_windows.specs.Streams.{granted}
use Rattle.h2_windows.proofs.streams.grant.Given as goal

abbrev pub invariant-loop-stream : goal.invariant-loop-stream
invariant-loop-stream l = l.streams ≡ granted l.id l.increment (take l.stream-index l.fn.streams) ++ drop l.stream-index l.fn.streams
