use Rattle.std.proofs.Common.{inl, length, ap, subst}
use Rattle.program.specs.Environment.{seen_disk}
use Rattle.program.specs.ServeCommand.{SaysEnd}
use Rattle.program.proofs.BookLeft.{serves_from}
use Rattle.program.proofs.serve_command.over_book.Goals as goal

pub returns-in-Ok : goal.returns-in-Ok
returns-in-Ok g c =
    let accepted = c.accept-disk in
    let says = subst (λ n. SaysEnd accepted.result.1.ending n (g.W.Sink.seen c.args.output.now) (g.W.Sink.seen c.say_end-ending.new.output) c.say_end-ending.result) (ap (λ l. length l) c.as_slice.ensures.value) c.say_end-ending.ensures in
    inl (serves_from g.E.Reader.Source.seen g.E.Writer.Sink.seen c.args.book c.args.sessions accepted.result.1.ending accepted.result.1.links.items c.in-Ok.shared.port (g.E.Door.seen c.args.door.now) (g.E.Door.seen accepted.new.door) (seen_disk g.D.Disk.told g.D.Disk.faults accepted.result.0) (g.W.Sink.seen c.args.output.now) (g.W.Sink.seen c.say_end-ending.new.output) c.say_end-ending.result c.in-Ok.ensures.ok accepted.ensures says)
