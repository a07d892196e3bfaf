use Rattle.h2_send.specs.Wires.{progress_of}
use Rattle.session_core.proofs.beside.serve_greeted.Goals as goal

pub returns-in-Ok-make : goal.returns-in-Ok-make
returns-in-Ok-make g c = λ input output begins. c.serve_shared.ensures input output (progress_of g.O.Sink.seen c.args.wire) c.in-Ok-make.ensures.ok begins
