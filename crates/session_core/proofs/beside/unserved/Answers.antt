use Rattle.std.proofs.Common.{sym, subst}
use Rattle.h2_send.specs.Wires.{progress_of}
use Rattle.session_core.specs.declared.how.How.TheVariants as hows
use Rattle.session_core.specs.FeederRuns.{SessionRunBeside}
use Rattle.session_core.specs.Runs.{outside_of}
use Rattle.session_core.proofs.Gathered.{nothing_served}
use Rattle.session_core.proofs.beside.unserved.Goals as goal

pub returns : goal.returns
returns g c = λ schema input output begins.
    subst (λ s. SessionRunBeside schema (outside_of input output (g.P.BookPort.port c.args.book) (g.C.Clock.readings c.args.clock)) hows.NoMemory (outside_of (g.I.Source.seen c.args.incoming.source) (g.O.Sink.seen s) (g.P.BookPort.port c.args.book) (g.C.Clock.readings c.args.clock))) (sym c.give.ensures)
    (nothing_served schema (outside_of input output (g.P.BookPort.port c.args.book) (g.C.Clock.readings c.args.clock)) (g.I.Source.seen c.args.incoming.source) c.args.incoming.count c.args.incoming.recv (progress_of g.O.Sink.seen c.args.wire) begins c.requires)
