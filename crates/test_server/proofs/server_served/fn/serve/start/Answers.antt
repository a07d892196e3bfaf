use denote.Param.Send.{sendable}
use Rattle.test_server.proofs.Crossing.{book_send}
use Rattle.test_server.proofs.server_served.fn.serve.start.Goals as goal

pub start_feeder-requires-send-P : goal.start_feeder-requires-send-P
start_feeder-requires-send-P g c κs within =
    let r = c.requires in
    search (sendable, book_send) depth 60 fits 100000
