use Rattle.history_laws.proofs.States.{world_after_one, world_after_more, stamp_after_one}
use Rattle.history_laws.proofs.histories.states_go_on.Goals as goal

pub returns : goal.returns
returns c = record { state = world_after_one; more = world_after_more; stamp = stamp_after_one }
