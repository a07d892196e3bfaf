-- What a disk that stops keeps, over each of its steps.
use Rattle.std.proofs.Common.{◌≡◌, ℕ, Bool, true, false, List, [], ◌∷◌, ◌++◌, length, take, Option, Some, None, refl, ap, subst, sym, ◌∙◌}
use Rattle.disk_model.specs.Images.{IsImage, mask_after_write, mask_after_sync}
use Rattle.disk_model.proofs.Images.{image_of_touched, image_of_front, image_of_cut, image_of_written, image_self}
use Rattle.base_kinds.specs.declared.fill.Fill.{Fill}
use Rattle.memory_disks.specs.inner.Kept.{IsFused, AllFree, HasBase, LeftAfter, base_of, seen_of, left_of}
use Rattle.memory_disks.specs.Octets.{octets_after_write, octets_after_stop}
use Rattle.memory_disks.proofs.Laid.{wrote_laid}
use Rattle.memory_disks.proofs.Free.{all_more, all_take, all_written, image_left, image_left_written}

-- a disk that is made of octets that are an image
pub fused_made : (stopped : Bool) (base octets : List ℕ) (written : List (ℕ × ℕ)) (mask : List (Option ℕ)) → base ≡ octets → written ≡ [] → IsImage mask octets → IsFused stopped None None base octets written mask
fused_made stopped base octets written mask base_is none image = record {
  base_is = subst (λ o. IsImage mask o) (sym base_is) image;
  seen_is = image;
  left_is = image;
  free = subst (λ w. AllFree w mask) (sym none) tt;
  safe_is = base_is;
  left_after = nothing stopped;
}
  where
    nothing : (stopped : Bool) → LeftAfter stopped None
    nothing true = tt
    nothing false = refl

pub fused_settled : (stopped : Bool) (base octets : List ℕ) (written : List (ℕ × ℕ)) (mask : List (Option ℕ)) → base ≡ octets → written ≡ [] → mask ≡ mask_after_sync octets → IsFused stopped None None base octets written mask
fused_settled stopped base octets written mask base_is none is = fused_made stopped base octets written mask base_is none (subst (λ m. IsImage m octets) (sym is) (image_self octets))

pub fused_touched : (stopped : Bool) (before safe : Option (List ℕ)) (base octets : List ℕ) (written : List (ℕ × ℕ)) (mask now : List (Option ℕ)) (place n : ℕ) → now ≡ mask_after_write place n mask → IsFused stopped before safe base octets written mask → IsFused stopped before safe base octets written now
fused_touched stopped before safe base octets written mask now place n is fused = subst (λ m. IsFused stopped before safe base octets written m) (sym is) record {
  base_is = image_of_touched mask base place n fused.base_is;
  seen_is = image_of_touched mask (seen_of before octets) place n fused.seen_is;
  left_is = image_of_touched mask octets place n fused.left_is;
  free = all_more written mask place n fused.free;
  safe_is = fused.safe_is;
  left_after = fused.left_after;
}

pub fused_front : (stopped : Bool) (before safe : Option (List ℕ)) (base octets : List ℕ) (written : List (ℕ × ℕ)) (mask now : List (Option ℕ)) (n : ℕ) → now ≡ take n mask → IsFused stopped before safe base octets written mask → IsFused stopped before safe base octets written now
fused_front stopped before safe base octets written mask now n is fused = subst (λ m. IsFused stopped before safe base octets written m) (sym is) record {
  base_is = image_of_front mask base n fused.base_is;
  seen_is = image_of_front mask (seen_of before octets) n fused.seen_is;
  left_is = image_of_front mask octets n fused.left_is;
  free = all_take written mask n fused.free;
  safe_is = fused.safe_is;
  left_after = fused.left_after;
}

-- the parts of a disk by equal ones, whose base is kept in another copy
pub fused_as : (stopped : Bool) (before safe copy : Option (List ℕ)) (base octets same : List ℕ) (written shown : List (ℕ × ℕ)) (mask : List (Option ℕ)) → base_of copy same ≡ base_of safe octets → same ≡ octets → shown ≡ written → IsFused stopped before safe base octets written mask → IsFused stopped before copy base same shown mask
fused_as stopped before safe copy base octets same written shown mask base_is is shown_is fused = record {
  base_is = fused.base_is;
  seen_is = subst (λ o. IsImage mask (seen_of before o)) (sym is) fused.seen_is;
  left_is = subst (λ o. IsImage mask o) (sym is) fused.left_is;
  free = subst (λ w. AllFree w mask) (sym shown_is) fused.free;
  safe_is = has before fused.safe_is;
  left_after = fused.left_after;
}
  where
    has : (before : Option (List ℕ)) → HasBase before safe base octets → HasBase before copy base same
    has None was = was ∙ sym base_is
    has (Some b) was = tt

-- a write
pub fused_wrote : (stopped : Bool) (before safe copy : Option (List ℕ)) (base octets new : List ℕ) (written shown : List (ℕ × ℕ)) (mask now : List (Option ℕ)) (place : ℕ) (piece : List ℕ) → left_of before octets ≡ None → now ≡ mask_after_write place (length piece) mask → base_of copy new ≡ base_of safe octets → new ≡ octets_after_write place piece octets → shown ≡ written ++ (place, length piece) ∷ [] → IsFused stopped before safe base octets written mask → IsFused stopped before copy base new shown now
fused_wrote stopped (Some b) safe copy base octets new written shown mask now place piece none is base_is new_is shown_is fused = absurd (cc)
fused_wrote stopped None safe copy base octets new written shown mask now place piece none is base_is new_is shown_is fused =
    let image : IsImage (mask_after_write place (length piece) mask) new = subst (λ o. IsImage (mask_after_write place (length piece) mask) o) (sym new_is) (image_of_written mask octets piece (octets_after_write place piece octets) place fused.seen_is (wrote_laid place piece octets)) in
    subst (λ m. IsFused stopped None copy base new shown m) (sym is) record {
      base_is = image_of_touched mask base place (length piece) fused.base_is;
      seen_is = image;
      left_is = image;
      free = subst (λ w. AllFree w (mask_after_write place (length piece) mask)) (sym shown_is) (all_written written place (length piece) mask fused.free);
      safe_is = fused.safe_is ∙ sym base_is;
      left_after = fused.left_after;
    }

-- a cut
pub fused_cut : (stopped : Bool) (before safe copy : Option (List ℕ)) (base octets new : List ℕ) (written : List (ℕ × ℕ)) (mask now : List (Option ℕ)) (n : ℕ) → left_of before octets ≡ None → now ≡ take n mask → copy ≡ Some (base_of safe octets) → new ≡ take n octets → IsFused stopped before safe base octets written mask → IsFused stopped before copy base new written now
fused_cut stopped (Some b) safe copy base octets new written mask now n none is copy_is new_is fused = absurd (cc)
fused_cut stopped None safe copy base octets new written mask now n none is copy_is new_is fused =
    let image : IsImage (take n mask) new = subst (λ o. IsImage (take n mask) o) (sym new_is) (image_of_cut mask octets n fused.seen_is) in
    subst (λ m. IsFused stopped None copy base new written m) (sym is) record {
      base_is = image_of_front mask base n fused.base_is;
      seen_is = image;
      left_is = image;
      free = all_take written mask n fused.free;
      safe_is = fused.safe_is ∙ sym (ap (λ c. base_of c new) copy_is);
      left_after = fused.left_after;
    }

-- a sync
pub fused_synced : (stopped : Bool) (before safe : Option (List ℕ)) (base new octets : List ℕ) (written shown : List (ℕ × ℕ)) (mask now : List (Option ℕ)) → left_of before octets ≡ None → new ≡ octets → shown ≡ [] → now ≡ mask_after_sync octets → IsFused stopped before safe base octets written mask → IsFused stopped before None new octets shown now
fused_synced stopped (Some b) safe base new octets written shown mask now none new_is shown_is is fused = absurd (cc)
fused_synced stopped None safe base new octets written shown mask now none new_is shown_is is fused = fused_settled stopped new octets shown now new_is shown_is is

left_is_marked : (stopped : Bool) (seen : List ℕ) → stopped ≡ true → LeftAfter stopped (Some seen)
left_is_marked stopped seen is = subst (λ s. LeftAfter s (Some seen)) (sym is) tt

-- a stop
pub fused_stopped : (stopped : Bool) (before safe taken copy : Option (List ℕ)) (base octets seen new : List ℕ) (written shown : List (ℕ × ℕ)) (mask : List (Option ℕ)) (fill : Fill) → left_of before octets ≡ None → stopped ≡ true → seen ≡ octets → taken ≡ safe → shown ≡ written → new ≡ octets_after_stop fill (base_of taken octets) octets shown → IsFused stopped before safe base octets written mask → IsFused stopped (Some seen) copy base new written mask
fused_stopped stopped (Some b) safe taken copy base octets seen new written shown mask fill none marked seen_is taken_is shown_is new_is fused = absurd (cc)
fused_stopped stopped None safe taken copy base octets seen new written shown mask fill none marked seen_is taken_is shown_is new_is fused =
    let same : new ≡ octets_after_stop fill base octets written = new_is ∙ ap (λ s. octets_after_stop fill (base_of s octets) octets shown) taken_is ∙ ap (λ w. octets_after_stop fill (base_of safe octets) octets w) shown_is ∙ ap (λ b. octets_after_stop fill b octets written) (sym fused.safe_is) in
    record {
      base_is = fused.base_is;
      seen_is = subst (λ o. IsImage mask o) (sym seen_is) fused.seen_is;
      left_is = subst (λ o. IsImage mask o) (sym same) (image_left fill base octets written mask fused.base_is fused.seen_is fused.free);
      free = fused.free;
      safe_is = tt;
      left_after = left_is_marked stopped seen marked;
    }

-- a stop in a write
pub fused_stopped_in_write : (stopped : Bool) (before safe taken copy : Option (List ℕ)) (base octets seen new : List ℕ) (written shown : List (ℕ × ℕ)) (mask now : List (Option ℕ)) (fill : Fill) (place : ℕ) (piece : List ℕ) → left_of before octets ≡ None → stopped ≡ true → now ≡ mask_after_write place (length piece) mask → seen ≡ octets → taken ≡ safe → shown ≡ written → new ≡ octets_after_stop fill (base_of taken octets) (octets_after_write place piece octets) (shown ++ (place, length piece) ∷ []) → IsFused stopped before safe base octets written mask → IsFused stopped (Some seen) copy base new written now
fused_stopped_in_write stopped (Some b) safe taken copy base octets seen new written shown mask now fill place piece none marked is seen_is taken_is shown_is new_is fused = absurd (cc)
fused_stopped_in_write stopped None safe taken copy base octets seen new written shown mask now fill place piece none marked is seen_is taken_is shown_is new_is fused =
    let after = mask_after_write place (length piece) mask in
    let both : List ℕ = octets_after_write place piece octets in
    let same : new ≡ octets_after_stop fill base both (written ++ (place, length piece) ∷ []) = new_is ∙ ap (λ s. octets_after_stop fill (base_of s octets) both (shown ++ (place, length piece) ∷ [])) taken_is ∙ ap (λ w. octets_after_stop fill (base_of safe octets) both (w ++ (place, length piece) ∷ [])) shown_is ∙ ap (λ b. octets_after_stop fill b both (written ++ (place, length piece) ∷ [])) (sym fused.safe_is) in
    subst (λ m. IsFused stopped (Some seen) copy base new written m) (sym is) record {
      base_is = image_of_touched mask base place (length piece) fused.base_is;
      seen_is = subst (λ o. IsImage after o) (sym seen_is) (image_of_touched mask octets place (length piece) fused.seen_is);
      left_is = subst (λ o. IsImage after o) (sym same) (image_left_written fill base octets written place piece mask fused.base_is fused.seen_is fused.free);
      free = all_more written mask place (length piece) fused.free;
      safe_is = tt;
      left_after = left_is_marked stopped seen marked;
    }
