-- Places that may hold any octet after a stop, and what a stop leaves.
use Rattle.std.proofs.Common.{◌≡◌, ℕ, zero, suc, List, [], ◌∷◌, ◌++◌, length, take, Option, Some, None, refl}
use Rattle.disk_model.specs.Images.{IsImage, mask_after_write, with_range_filled}
use Rattle.disk_model.proofs.Images.{image_of_touched, image_of_written}
use Rattle.base_kinds.specs.declared.fill.Fill.{Fill}
use Rattle.base_kinds.specs.declared.fill.Fill.TheVariants.{Old, New, Octet}
use Rattle.memory_disks.specs.inner.Kept.{IsFree, AllFree}
use Rattle.memory_disks.specs.Octets.{octets_after_stop, with_ranges_filled, octets_after_write}
use Rattle.memory_disks.proofs.Laid.{wrote_laid}

pub free_self : (place n : ℕ) (mask : List (Option ℕ)) → IsFree place n (mask_after_write place n mask)
free_self place n [] = tt
free_self (suc place) n (k ∷ mask) = free_self place n mask
free_self zero zero (k ∷ mask) = tt
free_self zero (suc n) (k ∷ mask) = (refl, free_self zero n mask)

pub free_more : (place n : ℕ) (mask : List (Option ℕ)) (at m : ℕ) → IsFree place n mask → IsFree place n (mask_after_write at m mask)
free_more place n [] at m free = tt
free_more (suc place) n (k ∷ mask) (suc at) m free = free_more place n mask at m free
free_more (suc place) n (k ∷ mask) zero zero free = free
free_more (suc place) n (k ∷ mask) zero (suc m) free = free_more place n mask zero m free
free_more zero zero (k ∷ mask) (suc at) m free = tt
free_more zero zero (k ∷ mask) zero zero free = tt
free_more zero zero (k ∷ mask) zero (suc m) free = tt
free_more zero (suc n) (k ∷ mask) (suc at) m free = (free.0, free_more zero n mask at m free.1)
free_more zero (suc n) (k ∷ mask) zero zero free = free
free_more zero (suc n) (k ∷ mask) zero (suc m) free = (refl, free_more zero n mask zero m free.1)

pub free_take : (place n : ℕ) (mask : List (Option ℕ)) (m : ℕ) → IsFree place n mask → IsFree place n (take m mask)
free_take place n mask zero free = tt
free_take place n [] (suc m) free = tt
free_take (suc place) n (k ∷ mask) (suc m) free = free_take place n mask m free
free_take zero zero (k ∷ mask) (suc m) free = tt
free_take zero (suc n) (k ∷ mask) (suc m) free = (free.0, free_take zero n mask m free.1)

pub all_more : (ranges : List (ℕ × ℕ)) (mask : List (Option ℕ)) (at m : ℕ) → AllFree ranges mask → AllFree ranges (mask_after_write at m mask)
all_more [] mask at m free = tt
all_more (r ∷ ranges) mask at m free = (free_more r.0 r.1 mask at m free.0, all_more ranges mask at m free.1)

pub all_take : (ranges : List (ℕ × ℕ)) (mask : List (Option ℕ)) (m : ℕ) → AllFree ranges mask → AllFree ranges (take m mask)
all_take [] mask m free = tt
all_take (r ∷ ranges) mask m free = (free_take r.0 r.1 mask m free.0, all_take ranges mask m free.1)

all_push : (ranges : List (ℕ × ℕ)) (place n : ℕ) (mask : List (Option ℕ)) → AllFree ranges mask → IsFree place n mask → AllFree (ranges ++ (place, n) ∷ []) mask
all_push [] place n mask all free = (free, tt)
all_push (r ∷ ranges) place n mask all free = (all.0, all_push ranges place n mask all.1 free)

-- after a write its places are free too
pub all_written : (ranges : List (ℕ × ℕ)) (place n : ℕ) (mask : List (Option ℕ)) → AllFree ranges mask → AllFree (ranges ++ (place, n) ∷ []) (mask_after_write place n mask)
all_written ranges place n mask all = all_push ranges place n (mask_after_write place n mask) (all_more ranges mask place n all) (free_self place n mask)

image_painted : (octet place n : ℕ) (mask : List (Option ℕ)) (octets : List ℕ) → IsFree place n mask → IsImage mask octets → IsImage mask (with_range_filled octet place n octets)
image_painted octet place n [] octets free image = tt
image_painted octet place n (k ∷ mask) [] free image = absurd image
image_painted octet (suc place) n (None ∷ mask) (o ∷ octets) free image = image_painted octet place n mask octets free image
image_painted octet (suc place) n (Some a ∷ mask) (o ∷ octets) free image = (image.0, image_painted octet place n mask octets free image.1)
image_painted octet zero zero (k ∷ mask) (o ∷ octets) free image = image
image_painted octet zero (suc n) (None ∷ mask) (o ∷ octets) free image = image_painted octet zero n mask octets free.1 image
image_painted octet zero (suc n) (Some a ∷ mask) (o ∷ octets) free image = let wrong : Some a ≡ None = free.0 in absurd (cc)

image_all_painted : (octet : ℕ) (ranges : List (ℕ × ℕ)) (mask : List (Option ℕ)) (octets : List ℕ) → AllFree ranges mask → IsImage mask octets → IsImage mask (with_ranges_filled octet ranges octets)
image_all_painted octet [] mask octets free image = image
image_all_painted octet (range ∷ ranges) mask octets free image = image_all_painted octet ranges mask (with_range_filled octet range.0 range.1 octets) free.1 (image_painted octet range.0 range.1 mask octets free.0 image)

-- a stop leaves an image, whatever it fills in
pub image_left : (fill : Fill) (base seen : List ℕ) (written : List (ℕ × ℕ)) (mask : List (Option ℕ)) → IsImage mask base → IsImage mask seen → AllFree written mask → IsImage mask (octets_after_stop fill base seen written)
image_left Old base seen written mask base_is seen_is free = base_is
image_left New base seen written mask base_is seen_is free = seen_is
image_left (Octet octet) base seen written mask base_is seen_is free = image_all_painted octet written mask seen free seen_is

-- and in a write
pub image_left_written : (fill : Fill) (base seen : List ℕ) (written : List (ℕ × ℕ)) (place : ℕ) (piece : List ℕ) (mask : List (Option ℕ)) → IsImage mask base → IsImage mask seen → AllFree written mask → IsImage (mask_after_write place (length piece) mask) (octets_after_stop fill base (octets_after_write place piece seen) (written ++ (place, length piece) ∷ []))
image_left_written fill base seen written place piece mask base_is seen_is free =
    image_left fill base (octets_after_write place piece seen) (written ++ (place, length piece) ∷ []) (mask_after_write place (length piece) mask) (image_of_touched mask base place (length piece) base_is) (image_of_written mask seen piece (octets_after_write place piece seen) place seen_is (wrote_laid place piece seen)) (all_written written place (length piece) mask free)
