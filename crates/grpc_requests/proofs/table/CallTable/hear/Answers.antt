use Rattle.std.proofs.Common.{◌≡◌, List, ◌++◌, sym, ap, ◌∙◌}
use Rattle.h2_events.specs.declared.event.RecvEvent.{RecvEvent}
use Rattle.grpc_requests.specs.declared.request.Request.{Request}
use Rattle.grpc_requests.specs.Requests.{requests, requests_with}
use Rattle.grpc_requests.proofs.Tables.{requests_more}
use Rattle.grpc_requests.proofs.table.CallTable.hear.Goals as goal

pub returns-in-Ok-clause-request : goal.returns-in-Ok-clause-request
returns-in-Ok-clause-request c =
    let heard = c.args.self.now in
    let event = c.args.event.now in
    let view = c.self.view_is in
    let same : heard ≡ c.self.inside.heard = cc in
    let more : c.in-Ok.more ≡ requests_with heard event = c.in-Ok.ensures.request c.self.inside.heard c.self.invariant ∙ ap (λ (hs : List RecvEvent). requests_with hs event) (sym same) in
    requests_more heard event ∙ ap (λ (rs : List Request). requests heard ++ rs) (sym more)
