-- A disk in memory as its callers see it.
use Rattle.std.specs.Prelude.{ℕ, ◌+◌, Bool, true, List, Some}
use Rattle.disk_model.specs.Arming.{unarmed}
use Rattle.disk_model.specs.Calls.{Fuse}
use Rattle.disk_model.specs.Content.{Content}
use Rattle.memory_disks.specs.Contents.{synced_content}

pub record DiskView : Type 0 where
  pub content : Content
  pub faults : ℕ
  -- whether it has failed for want of memory
  pub starved : Bool

-- a call failed for want of memory, and left this content
abbrev pub with_starved_call : Content → DiskView → DiskView
with_starved_call content disk =
    record { content = content; faults = disk.faults + 1; starved = true }

-- what makes its calls fail: it is never armed
abbrev pub fuse_of : DiskView → Fuse
fuse_of disk = record { arming = Some unarmed; starved = disk.starved }

-- a disk with these octets, all of them synced
abbrev pub new_disk_of : List ℕ → Bool → DiskView
new_disk_of octets starved =
    record { content = synced_content octets; faults = 0; starved = starved }
