use Rattle.std.proofs.Common.{◌≡◌, drop}
use Rattle.h2_streams.specs.States.{state_among}
use Rattle.h2_streams.proofs.streams.Streams.state.Given as goal

abbrev pub invariant-loop-stream : goal.invariant-loop-stream
invariant-loop-stream l = state_among l.id (drop l.stream-index l.stream-items) ≡ state_among l.id l.stream-items
