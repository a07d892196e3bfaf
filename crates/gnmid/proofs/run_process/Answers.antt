use denote.Param.Send.{sendable}
use Rattle.std.proofs.Crossing.{crosses}
use Rattle.std_environment.proofs.Crossing.{held_starter_send}
use Rattle.gnmid.proofs.run_process.Goals as goal

pub run_ready-requires-send-S : goal.run_ready-requires-send-S
run_ready-requires-send-S g c κs within =
    let r = c.type_bounds.send-R in
    search (sendable, crosses, held_starter_send) depth 60 fits 100000
