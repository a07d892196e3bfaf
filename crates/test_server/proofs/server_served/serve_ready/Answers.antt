use denote.Param.Send.{sendable}
use Rattle.test_server.proofs.Crossing.{book_send}
use Rattle.test_server.proofs.server_served.serve_ready.Goals as goal

pub serve_book-requires-send-P : goal.serve_book-requires-send-P
serve_book-requires-send-P g c κs within =
    let r = c.type_bounds.send-R in
    search (sendable, book_send) depth 60 fits 100000
