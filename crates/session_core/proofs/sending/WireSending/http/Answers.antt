use Rattle.session_core.proofs.OwnWires.{states_so}
use Rattle.session_core.proofs.sending.WireSending.http.Goals as goal

pub returns-clause-says : goal.returns-clause-says
returns-clause-says g c =
    states_so g.S.Sink.seen c.args.self.now c.http.new.self c.readiness.ensures.line c.args.stream c.args.status c.http.result c.requires.status
    c.http.ensures.says c.http.ensures.begun c.http.ensures.busy c.http.ensures.gone
