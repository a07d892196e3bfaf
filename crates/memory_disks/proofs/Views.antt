-- What a disk in memory tells, by its fields.
use Rattle.std.proofs.Common.{◌≡◌, ℕ, Bool, List, ◌∷◌, Option, sym, subst}
use Rattle.disk_model.specs.Content.{Content, Changes}
use Rattle.disk_model.specs.Images.{IsImage}
use Rattle.memory_disks.specs.Views.{DiskView}

pub image_as : (mask now : List (Option ℕ)) (octets seen : List ℕ) → now ≡ mask → seen ≡ octets → IsImage mask octets → IsImage now seen
image_as mask now octets seen mask_is seen_is image = subst (λ m. IsImage m seen) (sym mask_is) (subst (λ o. IsImage mask o) (sym seen_is) image)

-- one moment more
pub changed : (f : Content → List (Option ℕ)) (old new : Content) (before : DiskView) (faults : ℕ) (starved : Bool) → record { content = old; faults = faults; starved = starved } ≡ before → new.mask ≡ f old → new.past ≡ old.mask ∷ old.past → IsImage new.mask new.seen → Changes (f before.content) before.content new
changed f old new before faults starved is kept past image =
    subst (λ (b : DiskView). Changes (f b.content) b.content new) is record { mask_is = kept; past = past; seen = subst (λ m. IsImage m new.seen) kept image }
