use denote.Param.Send.{sendable}
use Rattle.test_server.proofs.Crossing.{book_send}
use Rattle.test_server.proofs.worker_served.fn.beside.start.Goals as goal

pub start_feeder-requires-send-P : goal.start_feeder-requires-send-P
start_feeder-requires-send-P g c κs within =
    let r = c.requires in
    search (sendable, book_send) depth 60 fits 100000
