use Rattle.session_core.proofs.Reading.{source_spent}
use Rattle.session_core.proofs.incoming.Incoming.next.Goals as goal

pub returns-then-room-eq0-clause-comes : goal.returns-then-room-eq0-clause-comes
returns-then-room-eq0-clause-comes g c = λ start octets moments has.
    source_spent start (g.I.Source.seen c.args.self.now.source) octets moments c.args.self.now.count c.args.self.now.count c.args.self.now.recv has (c.room-room.ensures.spent c.if-room-eq0.true)
