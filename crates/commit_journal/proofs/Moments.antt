-- An opening leaves nothing that a stop might not have left before it.
use Rattle.std.proofs.Common.{◌≡◌, ◌⊎◌, inl, inr, ℕ, List, [], ◌∷◌, Option, Some, None, refl, sym, subst, ◌∙◌}
use Rattle.disk_model.specs.Content.{Content, WhereTold, Tells, SeesImage}
use Rattle.disk_model.specs.Images.{IsImage, mask_after_sync}
use Rattle.disk_model.specs.Moments.{Leaves, LeavesNow, LeavesOnly}
use Rattle.disk_model.proofs.Moving.{changes_since, since_same}
use Rattle.commit_journal.specs.Openings.{IsSynced, Opens, disk_of}
use Rattle.commit_journal.specs.declared.opening.Opening.{Opening}
use Rattle.commit_journal.specs.declared.opening.Opening.TheVariants.{Ready, Damaged, DiskFault, NoMemory}

-- what begins with an image is one
image_longer : (mask : List (Option ℕ)) (seen octets : List ℕ) → IsImage mask seen → IsImage (mask_after_sync seen) octets → IsImage mask octets
image_longer [] seen octets image begins = tt
image_longer (k ∷ mask) [] octets image begins = absurd image
image_longer (k ∷ mask) (a ∷ seen) [] image begins = absurd begins
image_longer (None ∷ mask) (a ∷ seen) (b ∷ octets) image begins = image_longer mask seen octets image begins.1
image_longer (Some stays ∷ mask) (a ∷ seen) (b ∷ octets) image begins = (begins.0 ∙ image.0, image_longer mask seen octets image.1 begins.1)

sync_leaves : (old new : Option Content) → SeesImage old → WhereTold old new IsSynced → Tells old (λ c. LeavesOnly (λ octets. IsImage c.mask octets) old new)
sync_leaves None new image moved = tt
sync_leaves (Some o) None image moved = absurd moved
sync_leaves (Some o) (Some n) image moved = changes_since (Leaves (λ octets. IsImage o.mask octets)) (mask_after_sync o.seen) o n (λ octets is. is) (λ octets is. image_longer o.mask o.seen octets image is) moved.changes

none_leaves : (old new : Option Content) → new ≡ old → Tells old (λ c. LeavesOnly (λ octets. IsImage c.mask octets) old new)
none_leaves old new same = subst (λ t. Tells old (λ c. LeavesOnly (λ octets. IsImage c.mask octets) old t)) (sym same) (stays old)
  where
    stays : (told : Option Content) → Tells told (λ c. LeavesOnly (λ octets. IsImage c.mask octets) told told)
    stays None = tt
    stays (Some c) = since_same (Leaves (λ octets. IsImage c.mask octets)) c (λ octets is. is)

pub opening_leaves : {D : Type 0} (told : D → Option Content) (faults : D → ℕ) (disk : D) (opening : Opening D) → SeesImage (told disk) → Opens told faults disk opening → Tells (told disk) (λ c. LeavesOnly (λ octets. IsImage c.mask octets) (told disk) (told (disk_of opening)))
opening_leaves told faults disk (Ready ledger entries) image opens = sync_leaves (told disk) (told ledger.disk) image opens.was_synced
opening_leaves told faults disk (Damaged place left) image opens = sync_leaves (told disk) (told left) image opens.was_synced
opening_leaves told faults disk (DiskFault left) image (rose, inl same) = none_leaves (told disk) (told left) same
opening_leaves told faults disk (DiskFault left) image (rose, inr moved) = sync_leaves (told disk) (told left) image moved
opening_leaves told faults disk (NoMemory left) image opens = sync_leaves (told disk) (told left) image opens.0
