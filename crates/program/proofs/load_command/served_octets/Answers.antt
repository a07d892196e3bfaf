-- served_octets
use Rattle.std.proofs.Common.{sym, ap, subst}
use Rattle.memory_disks.specs.Views.{DiskView}
use Rattle.program.specs.LoadRun.{AreSteady, IsMemory}
use Rattle.program.specs.SessionCommand.{Streams}
use Rattle.program.specs.inner.Loads.{ServesOctets, seen_memory}
use Rattle.program.proofs.Loads.{serves_octets}
use Rattle.program.proofs.load_command.served_octets.Goals as goal

pub returns-clause-serves : goal.returns-clause-serves
returns-clause-serves c =
    let end = c.on_disk-disk.result in
    let steady = subst AreSteady (ap (λ (s : Streams). s.clock) c.streams.view_is) (subst AreSteady c._clock.view_is c._clock.invariant) in
    subst (λ (d : DiskView). ServesOctets c.args.octets c.args.schema (seen_memory c.args.disk) (seen_memory d) end.ending) (sym c.looked_at-disk.ensures.same) (serves_octets c.args.schema c.make.result c.make-2.result c.make-3.result c.args.octets c.args.disk end.disk end.streams end.how end.ending c.make.ensures c.make-2.ensures c.make-3.ensures steady c.on_disk-disk.ensures)

pub returns-clause-memory : goal.returns-clause-memory
returns-clause-memory c = subst (λ (d : DiskView). IsMemory (seen_memory d)) (sym c.looked_at-disk.ensures.same) c.looked_at-disk.ensures.memory
