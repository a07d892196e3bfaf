use Rattle.std.proofs.Common.{Some, sym, subst}
use Rattle.program.specs.Environment.{Environment, seen_disk, seen_door}
use Rattle.program.specs.SessionCommand.{SessionCommand}
use Rattle.program.proofs.Sessions.{on_disk}
use Rattle.program.proofs.session_command.session.Goals as goal

pub returns-in-Ok-disk-clause-run : goal.returns-in-Ok-disk-clause-run
returns-in-Ok-disk-clause-run g c =
    let told = g.K.Files.Disk.Disk.told in
    let faults = g.K.Files.Disk.Disk.faults in
    let seen = g.K.Files.Files.seen in
    let end = c.on_disk-end.result in
    let door = seen_door g.K.Door.Reader.Source.seen g.K.Door.Writer.Sink.seen (g.K.Door.Door.seen c.host.inside.door) in
    let before : Environment = record {
      files = seen c.host.inside.files;
      input = g.K.Input.Source.seen c.host.inside.input;
      output = g.K.Output.Sink.seen c.host.inside.output;
      door = door;
      clock = g.K.Clock.Clock.readings c.host.inside.clock;
    } in
    let initial = seen_disk told faults c.in-Ok-disk.disk in
    let final = seen_disk told faults end.disk in
    rw (← c.host.view_is) (subst (λ (after : Environment). SessionCommand c.args.schema.now c.args.journal.now before after (Some final) end.how end.ending) (sym c.host_of.ensures)
    (on_disk c.args.schema.now c.args.journal.now c.in-Ok.schema before (seen c.schema_and_desk.new.files) (seen c.disk.new.self) end.streams door initial final end.how end.ending c.in-Ok.ensures.schema c.in-Ok-disk.ensures c.on_disk-end.ensures))
