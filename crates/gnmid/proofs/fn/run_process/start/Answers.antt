use denote.Param.Send.{sendable}
use Rattle.gnmid.proofs.Crossing.{book_send}
use Rattle.gnmid.proofs.fn.run_process.start.Goals as goal

pub start_feeder-requires-send-P : goal.start_feeder-requires-send-P
start_feeder-requires-send-P g c κs within =
    let r = c.requires in
    search (sendable, book_send) depth 60 fits 100000
