use Rattle.session_core.proofs.OwnWires.{closes_so}
use Rattle.session_core.proofs.sending.WireSending.close.Goals as goal

pub returns-clause-closes : goal.returns-clause-closes
returns-clause-closes g c =
    closes_so g.S.Sink.seen c.args.self.now c.finish.new.self c.readiness.ensures.line c.args.code c.finish.result c.finish.ensures.finishes c.finish.ensures.closed
