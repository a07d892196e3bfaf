-- What the calls of a disk in memory make of its content.
use Rattle.std.specs.Prelude.{ℕ, List, [], ◌∷◌, length, take}
use Rattle.disk_model.specs.Content.{Content}
use Rattle.disk_model.specs.Images.{mask_after_sync, mask_after_write}
use Rattle.memory_disks.specs.Octets.{octets_after_write}

-- a write
abbrev pub content_after_write : ℕ → List ℕ → Content → Content
content_after_write place piece content = record {
  seen = octets_after_write place piece content.seen;
  mask = mask_after_write place (length piece) content.mask;
  past = content.mask ∷ content.past;
}

-- a write that failed, which counts as made for what a stop may leave, and changes nothing that a read gives
abbrev pub content_after_failed_write : ℕ → List ℕ → Content → Content
content_after_failed_write place piece content = record {
  seen = content.seen;
  mask = mask_after_write place (length piece) content.mask;
  past = content.mask ∷ content.past;
}

-- a cut
abbrev pub content_after_cut : ℕ → Content → Content
content_after_cut n content = record {
  seen = take n content.seen;
  mask = take n content.mask;
  past = content.mask ∷ content.past;
}

-- a cut that failed
abbrev pub content_after_failed_cut : ℕ → Content → Content
content_after_failed_cut n content = record {
  seen = content.seen;
  mask = take n content.mask;
  past = content.mask ∷ content.past;
}

-- a sync; one that failed changes nothing
abbrev pub content_after_sync : Content → Content
content_after_sync content = record {
  seen = content.seen;
  mask = mask_after_sync content.seen;
  past = content.mask ∷ content.past;
}

-- a disk whose octets are all synced, and which has had no call
abbrev pub synced_content : List ℕ → Content
synced_content octets = record { seen = octets; mask = mask_after_sync octets; past = [] }
