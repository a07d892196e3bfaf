use Rattle.std.proofs.Common.{ap, ◌∙◌, subst}
use Rattle.book_port.specs.Opened.{Opened}
use Rattle.book_port.specs.Ports.{PortView}
use Rattle.connection_server.specs.Jobs.{IsSamePort}
use Rattle.gnmi_server.proofs.Ports.{served_same}
use Rattle.gnmi_server.proofs.session.serve.Goals as goal

pub invariant_of-result : goal.invariant_of-result
invariant_of-result g c =
    let same = served_same _ _ _ _ c.serve_session-how.ensures c.port.invariant.0 in
    (same.alone ∙ c.port.invariant.0, ap (λ (o : Opened). o.schema) same.opened ∙ c.port.invariant.1)

pub returns-clause-same : goal.returns-clause-same
returns-clause-same g c =
    let same = served_same _ _ _ _ c.serve_session-how.ensures c.port.invariant.0 in
    subst (λ (p : PortView). IsSamePort p (g.P.BookPort.port c.serve_session-how.result.book)) c.port.view_is same
