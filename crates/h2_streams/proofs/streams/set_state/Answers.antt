use Rattle.std.proofs.Common.{arith}
use Rattle.std.proofs.lemmas.Grind.{common_steps}
use Rattle.std.proofs.lemmas.List.Edits.{map_over_more}
use Rattle.h2_streams.specs.States.{in_state}
use Rattle.h2_streams.proofs.streams.set_state.Goals as goal

pub loop-stream-preserved : goal.loop-stream-preserved
loop-stream-preserved c = rw c.in_state.ensures (grind (arith, common_steps, map_over_more (in_state c.args.id c.args.state)))
