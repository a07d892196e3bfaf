use Rattle.session_core.proofs.OwnWires.{reads}
use Rattle.session_core.proofs.sending.WireSending.readiness.Goals as goal

pub returns-clause-reads : goal.returns-clause-reads
returns-clause-reads g c = reads g.S.Sink.seen c.args.stream c.readiness.result c.args.self.now c.readiness.ensures.line c.readiness.ensures.is
