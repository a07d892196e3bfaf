use Rattle.std.proofs.Common.{refl}
use Rattle.session_core.proofs.Reading.{read_on}
use Rattle.session_core.proofs.incoming.Incoming.read.Goals as goal

pub returns-in-Ok-clause-comes : goal.returns-in-Ok-clause-comes
returns-in-Ok-clause-comes g c = λ start octets moments has.
    read_on start (g.I.Source.seen c.args.self.now.source) (g.I.Source.seen c.read.new.self) octets c.read.new.buffer moments c.in-Ok.count c.args.self.now.count _ c.args.self.now.recv c.take.new.recv c.take.result has c.in-Ok.ensures refl
    (λ reader at. c.take.ensures reader at)
