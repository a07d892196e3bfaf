-- The moments that passed between two states of a disk.
use Rattle.std.specs.Prelude.{◌≡◌, ℕ, List, [], ◌∷◌, ◌++◌, length, Option}
use Rattle.disk_model.specs.Content.{Content, WhereTold, Tells, Wrote}
use Rattle.disk_model.specs.Images.{IsImage, mask_after_sync, mask_after_write}

abbrev pub Each : (List (Option ℕ) → Type 0) → List (List (Option ℕ)) → Type 0
Each fact [] = Unit {0}
Each fact (mask ∷ masks) = fact mask × Each fact masks

-- at old, and at each moment after it up to new, the mask has the fact
pub record HoldsThroughout (fact : List (Option ℕ) → Type 0) (old new : Content) : Type 0 where
  pub first : fact old.mask
  pub later : List (List (Option ℕ))
  pub past : new.mask ∷ new.past ≡ later ++ (old.mask ∷ old.past)
  pub each : Each fact later

-- each image of a mask has the fact
abbrev pub Leaves : (List ℕ → Type 0) → List (Option ℕ) → Type 0
Leaves fact mask = (octets : List ℕ) → IsImage mask octets → fact octets

-- where the disk tells, what a stop leaves now has the fact
abbrev pub LeavesNow : (List ℕ → Type 0) → Option Content → Type 0
LeavesNow fact told = Tells told (λ content. Leaves fact content.mask)

-- where the disk tells, what a stop leaves at any moment from old to new has the fact
abbrev pub LeavesOnly : (List ℕ → Type 0) → Option Content → Option Content → Type 0
LeavesOnly fact old new = WhereTold old new (HoldsThroughout (Leaves fact))

-- A piece was written and synced. At the moment between, a stop leaves what one in the write may leave.
pub record PutSynced (place : ℕ) (piece : List ℕ) (old new : Content) : Type 0 where
  pub wrote : Wrote place piece old.seen new.seen
  pub mask_is : new.mask ≡ mask_after_sync new.seen
  pub past : new.past ≡ mask_after_write place (length piece) old.mask ∷ old.mask ∷ old.past
