use Rattle.h2_events.specs.Items.{said_by}
use Rattle.h2_send.specs.Port.{line_of}
use Rattle.h2_send.specs.Wires.{progress_of}
use Rattle.h2_send.proofs.Holding.{accepts_piece}
use Rattle.session_core.proofs.OwnWires.{says_so}
use Rattle.session_core.proofs.sending.WireSending.say.Goals as goal

pub returns-clause-says : goal.returns-clause-says
returns-clause-says g c =
    says_so g.S.Sink.seen c.args.self.now c.say.new.self c.say.ensures.found c.args.stream (said_by c.args.piece.now) c.say.result
    (λ free. accepts_piece c.args.stream c.args.piece.now (line_of (progress_of g.S.Sink.seen c.args.self.now)) c.requires.size free)
    c.say.ensures.says c.say.ensures.busy c.say.ensures.gone
