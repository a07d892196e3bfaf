use Rattle.std.proofs.Common.{◌++◌, refl, inl}
use Rattle.session_core.specs.inner.Feeders.{feeder_state}
use Rattle.session_core.specs.inner.Steps.{said_in}
use Rattle.session_core.specs.inner.Words.{words}
use Rattle.session_core.proofs.Found.{not_grown}
use Rattle.session_core.proofs.Words.{starved}
use Rattle.session_core.proofs.turns.say_turn.Goals as goal

pub returns-in-Err-clause-says : goal.returns-in-Err-clause-says
returns-in-Err-clause-says g c = λ fed start output octets started heard owed at theirs behind stands.
    starved fed start output octets (feeder_state (g.W.Sending.history c.args.wire.now) started) c.args.recv.now (g.W.Sending.progress c.args.wire.now) (g.W.Sending.progress c.args.wire.now) heard (c.args.waiting ++ words c.args.stream (said_in c.args.reply)) owed at (inl refl) stands

pub returns-in-Err-clause-grown : goal.returns-in-Err-clause-grown
returns-in-Err-clause-grown g c = not_grown (g.W.Sending.history c.args.wire.now)
