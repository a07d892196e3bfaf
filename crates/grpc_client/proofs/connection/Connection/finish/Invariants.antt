use Rattle.grpc_client.specs.inner.Rounds.{Advances}
use Rattle.grpc_client.proofs.connection.Connection.finish.Given as goal

abbrev pub invariant-frames : goal.invariant-frames
invariant-frames g l =
    let iseen = g.I.Source.seen in
    let oseen = g.O.Sink.seen in
    Advances l.fn.self l.self (iseen l.fn.input) (iseen l.input) (oseen l.fn.output) (oseen l.output)

abbrev pub decreases-frames : goal.decreases-frames
decreases-frames g l = l.self.left
