use Rattle.std.proofs.Common.{◌≡◌, ◌++◌, take, drop}
use Rattle.h2_streams.specs.States.{with_state}
use Rattle.h2_streams.proofs.streams.set_state.Given as goal

abbrev pub invariant-loop-stream : goal.invariant-loop-stream
invariant-loop-stream l = l.streams ≡ with_state l.id l.state (take l.stream-index l.initial.streams) ++ drop l.stream-index l.initial.streams
