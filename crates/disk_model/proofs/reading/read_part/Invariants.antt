use Rattle.std.proofs.Common.{◌≡◌, ◌+◌, ◌<◌, ◌≤◌, ◌-◌, length, take, drop, vec_len}
use Rattle.disk_model.specs.Content.{Tells}
use Rattle.disk_model.specs.Calls.{WhereArmed}
use Rattle.disk_model.specs.inner.Progress.{HasRead}
use Rattle.disk_model.proofs.reading.read_part.Given as goal

-- a front of the part is read, by one call for each piece, and the disk has met no fault
abbrev pub invariant-loop-piece : goal.invariant-loop-piece
invariant-loop-piece g l =
    let told = g.D.Disk.told in
    let faults = g.D.Disk.faults in
    let fuse = g.D.Disk.fuse in
    record {
      front : Tells (told l.fn.disk) (λ c. l.octets.items ≡ take (length l.octets.items) (take l.size (drop l.place c.seen)));
      within : length l.octets.items ≤ l.size;
      keeps : told l.disk ≡ told l.fn.disk;
      room : length l.piece ≡ 65536;
      counted : WhereArmed (fuse l.fn.disk) (told l.fn.disk) (λ c. l.place + l.size ≤ length c.seen → HasRead l.size (length l.octets.items) (fuse l.fn.disk) (fuse l.disk));
      quiet : faults l.disk ≡ faults l.fn.disk;
    }

abbrev pub decreases-loop-piece : goal.decreases-loop-piece
decreases-loop-piece g l = l.size - vec_len l.octets
