use Rattle.std.proofs.Common.{subst}
use Rattle.book_core.specs.Singles.{port_of}
use Rattle.session_core.specs.Runs.{SessionRun, outside_of}
use Rattle.program.specs.Environment.{seen_disk}
use Rattle.program.proofs.Sessions.{served}
use Rattle.program.proofs.session_command.serve.Goals as goal

pub returns : goal.returns
returns g c =
    let faults = g.D.Disk.faults in
    let end = c.serve_alone-end.result in
    let input = g.I.Source.seen in
    let output = g.O.Sink.seen in
    let readings = g.C.Clock.readings in
    let run = subst (λ port. SessionRun c.args.desk.now (outside_of (input c.streams.inside.input) (output c.streams.inside.output) (port_of faults port) (readings c.streams.inside.clock)) end.how (outside_of (input end.input) (output end.output) (port_of faults end.book) (readings end.clock))) c.make.ensures c.serve_alone-end.ensures in
    rw (← c.streams.view_is) (served c.args.desk.now _ (port_of faults end.book) (seen_disk g.D.Disk.told faults c.disk_of.result) _ _ end.how c.ending_of.result run c.disk_of.ensures c.ending_of.ensures)
