-- What a stop may leave of a disk, by the calls that it has had.
use Rattle.std.specs.Prelude.{ℕ, List, [], ◌∷◌, Option, take}
use Rattle.disk_model.specs.Images.{mask_after_sync, mask_after_write}
use Rattle.memory_disks.specs.declared.log.Log as log

-- what it may leave now
abbrev pub mask_of : log.Log → List (Option ℕ)
mask_of (log.Made octets) = mask_after_sync octets.value.items
mask_of (log.Wrote' marker earlier place n) = mask_after_write place n (mask_of earlier)
mask_of (log.Cut' marker earlier n) = take n (mask_of earlier)
mask_of (log.Synced' marker earlier octets) = mask_after_sync octets.value.items

-- what it might have left before, the latest first
abbrev pub past_of : log.Log → List (List (Option ℕ))
past_of (log.Made octets) = []
past_of (log.Wrote' marker earlier place n) = mask_of earlier ∷ past_of earlier
past_of (log.Cut' marker earlier n) = mask_of earlier ∷ past_of earlier
past_of (log.Synced' marker earlier octets) = mask_of earlier ∷ past_of earlier
