use Rattle.std.proofs.Common.{ℕ, List, [], sym, ap, ◌∙◌, subst}
use Rattle.base_kinds.specs.Schema.{SchemaNode}
use Rattle.book_core.specs.Singles.{port_of}
use Rattle.program.specs.declared.ending.Ending.{Ending}
use Rattle.program.specs.declared.ending.Ending.TheVariants.{DiskFault}
use Rattle.program.specs.Environment.{seen_disk}
use Rattle.program.specs.SessionCommand.{Streams, OpensNone}
use Rattle.program.specs.inner.ServedBook.{Served}
use Rattle.program.proofs.Sessions.{serves_one, serves_none, fails_to_open}
use Rattle.program.proofs.session_command.on_disk.Goals as goal

pub returns-in-Ready : goal.returns-in-Ready
returns-in-Ready g c =
    let told = g.D.Disk.told in
    let faults = g.D.Disk.faults in
    let input = g.I.Source.seen c.streams.inside.input in
    let output = g.O.Sink.seen c.streams.inside.output in
    let at = λ (clock : List ℕ). let streams : Streams = record { input = input; output = output; clock = clock } in streams in
    let end = c.serve.result in
    let one = subst (λ (schema : List SchemaNode). Served schema (port_of faults (record { book = c.in-Ready.book; author = 1; start = c.in-Ready.book; finds = [] })) (seen_disk told faults end.disk) (at (g.C.Clock.readings c.now-now.new.self)) end.streams end.how end.ending) c.requires c.serve.ensures in
    rw (← c.streams.view_is) (serves_one told faults g.D.Disk.fuse c.args.disk (seen_disk told faults end.disk) c.args.schema c.now-now.result c.in-Ready.book _ _ end.streams end.how end.ending c.in-Ready.ensures (ap at c.now-now.ensures) one)

pub returns-in-DiskFault : goal.returns-in-DiskFault
returns-in-DiskFault g c =
    let told = g.D.Disk.told in
    let faults = g.D.Disk.faults in
    let input = g.I.Source.seen c.streams.inside.input in
    let output = g.O.Sink.seen c.streams.inside.output in
    let at = λ (clock : List ℕ). let streams : Streams = record { input = input; output = output; clock = clock } in streams in
    let end = c.unserved-in-DiskFault.result in
    let is = c.unserved-in-DiskFault.ensures in
    let initial = seen_disk told faults c.args.disk in
    let none = fails_to_open told faults g.D.Disk.fuse c.args.disk c.in-DiskFault.disk c.args.schema c.now-now.result c.in-DiskFault.ensures in
    let with_disk = subst (λ disk. OpensNone c.args.schema c.now-now.result initial (seen_disk told faults disk) DiskFault) (sym is.disk) none in
    let with_ending = subst (λ (ending : Ending). OpensNone c.args.schema c.now-now.result initial (seen_disk told faults end.disk) ending) (sym is.ending) with_disk in
    rw (← c.streams.view_is) (serves_none c.args.schema c.now-now.result initial (seen_disk told faults end.disk) _ end.streams end.how end.ending with_ending (is.streams ∙ ap at c.now-now.ensures) is.how)
