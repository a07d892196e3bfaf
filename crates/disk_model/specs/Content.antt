-- What a disk tells of its content, and what its calls do to it.
use Rattle.std.specs.Prelude.{◌≡◌, ℕ, ◌+◌, ◌-◌, ◌<◌, ◌≤◌, List, [], ◌∷◌, ◌++◌, length}
use Rattle.std.specs.Prelude.{take, drop, Option, Some, None}
use Rattle.disk_model.specs.Images.{IsImage}

pub record Content : Type 0 where
  -- what a read gives
  pub seen : List ℕ
  -- what a stop may leave now, as a mask
  pub mask : List (Option ℕ)
  -- what it might have left at each earlier moment, the latest first
  pub past : List (List (Option ℕ))

-- a fact of what a disk tells, where it tells
abbrev pub Tells : Option Content → (Content → Type 0) → Type 0
Tells None fact = Unit {0}
Tells (Some content) fact = fact content

-- what a read gives is one of the images
abbrev pub SeesImage : Option Content → Type 0
SeesImage told = Tells told (λ content. IsImage content.mask content.seen)

-- a step from what a disk told to what it tells, where it tells
abbrev pub WhereTold : Option Content → Option Content → (Content → Content → Type 0) → Type 0
WhereTold None None step = Unit {0}
WhereTold None (Some new) step = ⊥
WhereTold (Some old) None step = ⊥
WhereTold (Some old) (Some new) step = step old new

-- n octets from a place on are read, and into a buffer that isn't empty none only at the end
pub record ReadsAt (seen : List ℕ) (place n : ℕ) (into : List ℕ) : Type 0 where
  pub octets : take n into ≡ take n (drop place seen)
  pub at_end : 0 < length into → n ≡ 0 → length seen ≤ place

-- One moment more, from which on a stop leaves an image of this mask. What a read gives is one of them.
pub record Changes (mask : List (Option ℕ)) (old new : Content) : Type 0 where
  pub mask_is : new.mask ≡ mask
  pub past : new.past ≡ old.mask ∷ old.past
  pub seen : IsImage mask new.seen

-- how many octets stand between the end and a piece that begins past it; a piece of no octets changes nothing
abbrev pub gap_length : ℕ → List ℕ → List ℕ → ℕ
gap_length place [] old = 0
gap_length place (octet ∷ piece) old = place - length old

-- a piece stands at its place; a gap before it may hold any octets, and all others stay
pub record Wrote (place : ℕ) (piece old new : List ℕ) : Type 0 where
  pub gap : List ℕ
  pub gap_is : length gap ≡ gap_length place piece old
  pub octets : new ≡ take place old ++ (gap ++ (piece ++ drop (place + length piece) old))
