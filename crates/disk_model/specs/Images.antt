-- What a stop may leave of a disk, as POSIX leaves it open: what was written is sure to be there only once a sync
-- has ended (POSIX.1-2017, fsync, write and ftruncate).
use Rattle.std.specs.Prelude.{◌≡◌, ℕ, zero, suc, List, [], ◌∷◌, Option, Some, None, map}

-- these n places from one on hold this item, as far as they are there
abbrev pub with_range_filled : {T : Type 0} → T → ℕ → ℕ → List T → List T
with_range_filled item place n [] = []
with_range_filled item (suc place) n (x ∷ xs) = x ∷ with_range_filled item place n xs
with_range_filled item zero zero (x ∷ xs) = x ∷ xs
with_range_filled item zero (suc n) (x ∷ xs) = item ∷ with_range_filled item zero n xs

-- A mask says what each stop leaves. It is as long as the disk was at its shortest at and since its last sync, and
-- has at each place below that the octet that stands there after any stop, or None where a write since then
-- touched the place.
abbrev pub Mask : Type 0
Mask = List (Option ℕ)

-- these octets may be what a stop leaves: at least as many, and each octet that stays is there
abbrev pub IsImage : List (Option ℕ) → List ℕ → Type 0
IsImage [] octets = Unit {0}
IsImage (place ∷ mask) [] = ⊥
IsImage (None ∷ mask) (octet ∷ octets) = IsImage mask octets
IsImage (Some stays ∷ mask) (octet ∷ octets) = (octet ≡ stays) × IsImage mask octets

-- the mask after a sync
abbrev pub mask_after_sync : List ℕ → List (Option ℕ)
mask_after_sync octets = map Some octets

-- The mask after a write of n octets at a place. After a cut to a length it is the front of that length.
abbrev pub mask_after_write : ℕ → ℕ → List (Option ℕ) → List (Option ℕ)
mask_after_write place n mask = with_range_filled None place n mask
