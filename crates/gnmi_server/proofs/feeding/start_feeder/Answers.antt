use denote.Param.Send.{sendable}
use Rattle.gnmi_server.proofs.Crossing.{done_send, job_send, visit_send}
use Rattle.gnmi_server.proofs.feeding.start_feeder.Goals as goal

pub start-requires-send-J : goal.start-requires-send-J
start-requires-send-J g c =
    let r = c.type_bounds.send-R in
    let p = c.type_bounds.send-P in
    let clock = c.type_bounds.send-C in
    let pacer = c.type_bounds.send-Q in
    let wire = visit_send _ g.O.Sink _ c.type_bounds.send-O r in
    search (sendable, job_send) depth 20 fits 100000

pub start-requires-send-J-Done : goal.start-requires-send-J-Done
start-requires-send-J-Done g c =
    let p = c.type_bounds.send-P in
    let wire = visit_send _ g.O.Sink _ c.type_bounds.send-O c.type_bounds.send-R in
    search (sendable, done_send) depth 20 fits 100000
