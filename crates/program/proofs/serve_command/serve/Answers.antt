use Rattle.std.proofs.Common.{option_map, refl, sym, ap, subst}
use Rattle.program.specs.Environment.{Environment, SeenFiles, seen_disk, seen_door}
use Rattle.program.specs.Links.{seen_links}
use Rattle.program.specs.inner.OpenedSchema.{Opened}
use Rattle.program.proofs.ServeStages.{goes_on_disk, stops_so}
use Rattle.program.proofs.serve_command.serve.Goals as goal

pub returns-in-Ok-disk-clause-run : goal.returns-in-Ok-disk-clause-run
returns-in-Ok-disk-clause-run g c =
    let told = g.K.Files.Disk.Disk.told in
    let faults = g.K.Files.Disk.Disk.faults in
    let reads = g.K.Door.Reader.Source.seen in
    let writes = g.K.Door.Writer.Sink.seen in
    let inside = c.host.inside in
    let at = λ (files : SeenFiles). let environment : Environment = record { files = files; input = g.K.Input.Source.seen inside.input; output = g.K.Output.Sink.seen inside.output; door = seen_door reads writes (g.K.Door.Door.seen inside.door); clock = g.K.Clock.Clock.readings inside.clock } in environment in
    let between = at (g.K.Files.Files.seen inside.files) in
    let mid = at (g.K.Files.Files.seen c.disk.new.self) in
    let end = c.on_disk-disk in
    let opened = subst (λ (e : Environment). Opened c.args.schema.now c.in-Ok.schema c.args.host e) (sym c.host.view_is) c.in-Ok.ensures.opened in
    goes_on_disk c.args.schema.now c.args.journal.now c.args.sessions c.in-Ok.schema c.args.host between mid end.new.host (seen_disk told faults c.in-Ok-disk.disk) (seen_disk told faults end.result.disk) (seen_links reads writes end.result.links.items) end.result.ending opened c.in-Ok-disk.ensures refl end.ensures.files end.ensures.on

pub returns-in-Err-clause-run : goal.returns-in-Err-clause-run
returns-in-Err-clause-run g c =
    let told = g.K.Files.Disk.Disk.told in
    let faults = g.K.Files.Disk.Disk.faults in
    let reads = g.K.Door.Reader.Source.seen in
    let writes = g.K.Door.Writer.Sink.seen in
    let end = c.without_disk-in-Err in
    stops_so c.args.schema.now c.args.journal.now c.args.sessions c.args.host c.open_desk.new.host end.result.host _ (seen_links reads writes end.result.links.items) c.in-Err.ending end.result.ending end.ensures.host end.ensures.ending (ap (λ d. option_map (λ disk. seen_disk told faults disk) d) end.ensures.disk) (ap (λ l. seen_links reads writes l) end.ensures.links) c.in-Err.ensures.stopped c.in-Err.ensures.rest
