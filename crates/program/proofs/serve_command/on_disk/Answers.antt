use Rattle.std.proofs.Common.{ℕ, [], List, refl, ap}
use Rattle.base_kinds.specs.Schema.{SchemaNode}
use Rattle.environment.specs.Output.{Output}
use Rattle.listening.specs.Doors.{DoorView}
use Rattle.environment.specs.Input.{Input}
use Rattle.program.specs.Environment.{Environment, SeenDisk, seen_disk, seen_door}
use Rattle.program.specs.Links.{SeenLinks, seen_links}
use Rattle.program.proofs.NoBook.{IsUntouched, over_damaged, over_unfit, over_faulty, over_starved}
use Rattle.program.proofs.BookLeft.{over_ready}
use Rattle.program.proofs.serve_command.on_disk.Goals as goal

pub returns-in-Ready-clause-on : goal.returns-in-Ready-clause-on
returns-in-Ready-clause-on g c =
    let told = g.K.Files.Disk.Disk.told in
    let faults = g.K.Files.Disk.Disk.faults in
    let fuse = g.K.Files.Disk.Disk.fuse in
    let reads = g.K.Door.Reader.Source.seen in
    let writes = g.K.Door.Writer.Sink.seen in
    let inside = c.host.inside in
    let at = λ (output : Output) (door : DoorView Input Output) (clock : List ℕ). let environment : Environment = record { files = g.K.Files.Files.seen inside.files; input = g.K.Input.Source.seen inside.input; output = output; door = door; clock = clock } in environment in
    let door = seen_door reads writes (g.K.Door.Door.seen inside.door) in
    let before = at (g.K.Output.Sink.seen inside.output) door (g.K.Clock.Clock.readings inside.clock) in
    let clock = g.K.Clock.Clock.readings c.now-now.new.self in
    let over = c.over_book in
    let after = at (g.K.Output.Sink.seen over.new.output) (seen_door reads writes (g.K.Door.Door.seen over.new.door)) clock in
    rw (← c.host.view_is) (over_ready told faults fuse c.args.disk c.args.schema c.now-now.result c.in-Ready.book c.in-Ready.ensures c.args.sessions (seen_disk told faults over.result.disk) before after (seen_links reads writes over.result.links.items) over.result.ending refl c.now-now.ensures over.ensures)

pub returns-in-Damaged-clause-on : goal.returns-in-Damaged-clause-on
returns-in-Damaged-clause-on g c =
    let told = g.K.Files.Disk.Disk.told in
    let faults = g.K.Files.Disk.Disk.faults in
    let fuse = g.K.Files.Disk.Disk.fuse in
    let reads = g.K.Door.Reader.Source.seen in
    let writes = g.K.Door.Writer.Sink.seen in
    let inside = c.host.inside in
    let at = λ (output : Output) (door : DoorView Input Output) (clock : List ℕ). let environment : Environment = record { files = g.K.Files.Files.seen inside.files; input = g.K.Input.Source.seen inside.input; output = output; door = door; clock = clock } in environment in
    let door = seen_door reads writes (g.K.Door.Door.seen inside.door) in
    let before = at (g.K.Output.Sink.seen inside.output) door (g.K.Clock.Clock.readings inside.clock) in
    let clock = g.K.Clock.Clock.readings c.now-now.new.self in
    let end = c.unserved in
    let after = at (g.K.Output.Sink.seen c.say_damage-ending.new.output) door clock in
    let rest : IsUntouched c.now-now.result before after = record { input = refl; clock = c.now-now.ensures; door = refl } in
    rw (← c.host.view_is) (over_damaged told faults fuse c.args.disk c.args.schema c.now-now.result c.args.sessions before after (seen_links reads writes end.result.links.items) c.say_damage-ending.result end.result.ending c.in-Damaged.disk end.result.disk end.ensures.disk (ap (λ l. seen_links reads writes l) end.ensures.links) end.ensures.ending rest c.in-Damaged.place c.in-Damaged.ensures c.say_damage-ending.ensures)

pub returns-in-Unfit-clause-on : goal.returns-in-Unfit-clause-on
returns-in-Unfit-clause-on g c =
    let told = g.K.Files.Disk.Disk.told in
    let faults = g.K.Files.Disk.Disk.faults in
    let fuse = g.K.Files.Disk.Disk.fuse in
    let reads = g.K.Door.Reader.Source.seen in
    let writes = g.K.Door.Writer.Sink.seen in
    let inside = c.host.inside in
    let at = λ (output : Output) (door : DoorView Input Output) (clock : List ℕ). let environment : Environment = record { files = g.K.Files.Files.seen inside.files; input = g.K.Input.Source.seen inside.input; output = output; door = door; clock = clock } in environment in
    let door = seen_door reads writes (g.K.Door.Door.seen inside.door) in
    let before = at (g.K.Output.Sink.seen inside.output) door (g.K.Clock.Clock.readings inside.clock) in
    let clock = g.K.Clock.Clock.readings c.now-now.new.self in
    let end = c.unserved-in-Unfit in
    let after = at (g.K.Output.Sink.seen c.say_unfit-ending.new.output) door clock in
    let rest : IsUntouched c.now-now.result before after = record { input = refl; clock = c.now-now.ensures; door = refl } in
    rw (← c.host.view_is) (over_unfit told faults fuse c.args.disk c.args.schema c.now-now.result c.args.sessions before after (seen_links reads writes end.result.links.items) c.say_unfit-ending.result end.result.ending c.in-Unfit.disk end.result.disk end.ensures.disk (ap (λ l. seen_links reads writes l) end.ensures.links) end.ensures.ending rest c.in-Unfit.ensures c.say_unfit-ending.ensures.ends c.say_unfit-ending.ensures.line)

pub returns-in-DiskFault-clause-on : goal.returns-in-DiskFault-clause-on
returns-in-DiskFault-clause-on g c =
    let told = g.K.Files.Disk.Disk.told in
    let faults = g.K.Files.Disk.Disk.faults in
    let fuse = g.K.Files.Disk.Disk.fuse in
    let reads = g.K.Door.Reader.Source.seen in
    let writes = g.K.Door.Writer.Sink.seen in
    let inside = c.host.inside in
    let at = λ (output : Output) (door : DoorView Input Output) (clock : List ℕ). let environment : Environment = record { files = g.K.Files.Files.seen inside.files; input = g.K.Input.Source.seen inside.input; output = output; door = door; clock = clock } in environment in
    let door = seen_door reads writes (g.K.Door.Door.seen inside.door) in
    let before = at (g.K.Output.Sink.seen inside.output) door (g.K.Clock.Clock.readings inside.clock) in
    let clock = g.K.Clock.Clock.readings c.now-now.new.self in
    let end = c.unserved-in-DiskFault in
    let after = at (g.K.Output.Sink.seen c.disk_fault-ending.new.output) door clock in
    let rest : IsUntouched c.now-now.result before after = record { input = refl; clock = c.now-now.ensures; door = refl } in
    rw (← c.host.view_is) (over_faulty told faults fuse c.args.disk c.args.schema c.now-now.result c.args.sessions before after (seen_links reads writes end.result.links.items) c.disk_fault-ending.result end.result.ending c.in-DiskFault.disk end.result.disk end.ensures.disk (ap (λ l. seen_links reads writes l) end.ensures.links) end.ensures.ending rest c.in-DiskFault.ensures c.disk_fault-ending.ensures.ends c.disk_fault-ending.ensures.line)

pub returns-in-NoMemory-clause-on : goal.returns-in-NoMemory-clause-on
returns-in-NoMemory-clause-on g c =
    let told = g.K.Files.Disk.Disk.told in
    let faults = g.K.Files.Disk.Disk.faults in
    let fuse = g.K.Files.Disk.Disk.fuse in
    let reads = g.K.Door.Reader.Source.seen in
    let writes = g.K.Door.Writer.Sink.seen in
    let inside = c.host.inside in
    let at = λ (output : Output) (door : DoorView Input Output) (clock : List ℕ). let environment : Environment = record { files = g.K.Files.Files.seen inside.files; input = g.K.Input.Source.seen inside.input; output = output; door = door; clock = clock } in environment in
    let door = seen_door reads writes (g.K.Door.Door.seen inside.door) in
    let before = at (g.K.Output.Sink.seen inside.output) door (g.K.Clock.Clock.readings inside.clock) in
    let clock = g.K.Clock.Clock.readings c.now-now.new.self in
    let end = c.unserved-in-NoMemory in
    let after = at (g.K.Output.Sink.seen c.out_of_memory-ending.new.output) door clock in
    let rest : IsUntouched c.now-now.result before after = record { input = refl; clock = c.now-now.ensures; door = refl } in
    rw (← c.host.view_is) (over_starved told faults fuse c.args.disk c.args.schema c.now-now.result c.args.sessions before after (seen_links reads writes end.result.links.items) c.out_of_memory-ending.result end.result.ending c.in-NoMemory.disk end.result.disk end.ensures.disk (ap (λ l. seen_links reads writes l) end.ensures.links) end.ensures.ending rest c.in-NoMemory.ensures c.out_of_memory-ending.ensures)
