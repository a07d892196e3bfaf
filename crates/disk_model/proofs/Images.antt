-- Which octets are images, after a write, a cut or a sync.
use Rattle.std.proofs.Common.{◌≡◌, ◌↔◌, ℕ, zero, suc, ◌+◌, ◌-◌, ◌≤◌, List, [], ◌∷◌, ◌++◌, length, take, drop, Option, Some, None, refl, sym, ap, subst, ◌∙◌, arith}
use Rattle.std.specs.List.{slice_get}
use Rattle.std.proofs.lemmas.List.{nil_from_length}
use Rattle.disk_model.specs.Content.{Wrote, gap_length}
use Rattle.disk_model.specs.Images.{IsImage, mask_after_sync, mask_after_write}

pub image_self : (octets : List ℕ) → IsImage (mask_after_sync octets) octets
image_self [] = tt
image_self (a ∷ octets) = (refl, image_self octets)

pub synced_front : (seen octets : List ℕ) → IsImage (mask_after_sync seen) octets → take (length seen) octets ≡ seen
synced_front [] octets image = refl
synced_front (a ∷ seen) [] image = absurd image
synced_front (a ∷ seen) (b ∷ octets) image = ap (λ x. x ∷ take (length seen) octets) image.0 ∙ ap (λ l. a ∷ l) (synced_front seen octets image.1)

pub front_synced : (seen octets : List ℕ) → take (length seen) octets ≡ seen → IsImage (mask_after_sync seen) octets
front_synced [] octets is = tt
front_synced (a ∷ seen) [] is = absurd (cc)
front_synced (a ∷ seen) (b ∷ octets) is = let head : b ≡ a = cc in let tail : take (length seen) octets ≡ seen = cc in (head, front_synced seen octets tail)

pub image_of_touched : (mask : List (Option ℕ)) (octets : List ℕ) (place n : ℕ) → IsImage mask octets → IsImage (mask_after_write place n mask) octets
image_of_touched [] octets place n image = tt
image_of_touched (k ∷ mask) [] place n image = absurd image
image_of_touched (None ∷ mask) (b ∷ octets) zero zero image = image
image_of_touched (Some a ∷ mask) (b ∷ octets) zero zero image = image
image_of_touched (None ∷ mask) (b ∷ octets) zero (suc n) image = image_of_touched mask octets zero n image
image_of_touched (Some a ∷ mask) (b ∷ octets) zero (suc n) image = image_of_touched mask octets zero n image.1
image_of_touched (None ∷ mask) (b ∷ octets) (suc place) n image = image_of_touched mask octets place n image
image_of_touched (Some a ∷ mask) (b ∷ octets) (suc place) n image = (image.0, image_of_touched mask octets place n image.1)

-- a cut of a mask asks less
pub image_of_front : (mask : List (Option ℕ)) (octets : List ℕ) (n : ℕ) → IsImage mask octets → IsImage (take n mask) octets
image_of_front mask octets zero image = tt
image_of_front [] octets (suc n) image = tt
image_of_front (k ∷ mask) [] (suc n) image = absurd image
image_of_front (None ∷ mask) (b ∷ octets) (suc n) image = image_of_front mask octets n image
image_of_front (Some a ∷ mask) (b ∷ octets) (suc n) image = (image.0, image_of_front mask octets n image.1)

pub image_of_cut : (mask : List (Option ℕ)) (octets : List ℕ) (n : ℕ) → IsImage mask octets → IsImage (take n mask) (take n octets)
image_of_cut mask octets zero image = tt
image_of_cut [] octets (suc n) image = tt
image_of_cut (k ∷ mask) [] (suc n) image = absurd image
image_of_cut (None ∷ mask) (b ∷ octets) (suc n) image = image_of_cut mask octets n image
image_of_cut (Some a ∷ mask) (b ∷ octets) (suc n) image = (image.0, image_of_cut mask octets n image.1)

image_at_front : (mask : List (Option ℕ)) (octets piece : List ℕ) → IsImage mask octets → IsImage (mask_after_write 0 (length piece) mask) (piece ++ drop (length piece) octets)
image_at_front [] octets piece image = tt
image_at_front (k ∷ mask) [] piece image = absurd image
image_at_front (k ∷ mask) (b ∷ octets) [] image = image
image_at_front (None ∷ mask) (b ∷ octets) (p ∷ piece) image = image_at_front mask octets piece image
image_at_front (Some a ∷ mask) (b ∷ octets) (p ∷ piece) image = image_at_front mask octets piece image.1

image_at : (mask : List (Option ℕ)) (octets : List ℕ) (place : ℕ) (gap piece : List ℕ) → length gap ≤ place - length octets → IsImage mask octets → IsImage (mask_after_write place (length piece) mask) (take place octets ++ (gap ++ (piece ++ drop (place + length piece) octets)))
image_at [] octets place gap piece le image = tt
image_at (k ∷ mask) [] place gap piece le image = absurd image
image_at (k ∷ mask) (b ∷ octets) zero gap piece le image =
    let none : gap ≡ [] = nil_from_length gap (omega (arith, le)) in
    let here : drop (0 + length piece) (b ∷ octets) ≡ drop (length piece) (b ∷ octets) = ap (λ n. drop n (b ∷ octets)) (omega arith) in
    let same : gap ++ (piece ++ drop (0 + length piece) (b ∷ octets)) ≡ piece ++ drop (length piece) (b ∷ octets) = ap (λ g. g ++ (piece ++ drop (0 + length piece) (b ∷ octets))) none ∙ ap (λ d. piece ++ d) here in
    subst (λ o. IsImage (mask_after_write 0 (length piece) (k ∷ mask)) o) (sym same) (image_at_front (k ∷ mask) (b ∷ octets) piece image)
image_at (None ∷ mask) (b ∷ octets) (suc place) gap piece le image =
    let e : suc place + length piece ≡ suc (place + length piece) = omega arith in
    let same : drop (suc place + length piece) (b ∷ octets) ≡ drop (place + length piece) octets = ap (λ n. drop n (b ∷ octets)) e in
    subst (λ d. IsImage (mask_after_write place (length piece) mask) (take place octets ++ (gap ++ (piece ++ d)))) (sym same) (image_at mask octets place gap piece (omega (arith, le)) image)
image_at (Some a ∷ mask) (b ∷ octets) (suc place) gap piece le image =
    let e : suc place + length piece ≡ suc (place + length piece) = omega arith in
    let same : drop (suc place + length piece) (b ∷ octets) ≡ drop (place + length piece) octets = ap (λ n. drop n (b ∷ octets)) e in
    (image.0, subst (λ d. IsImage (mask_after_write place (length piece) mask) (take place octets ++ (gap ++ (piece ++ d)))) (sym same) (image_at mask octets place gap piece (omega (arith, le)) image.1))

gap_le : (place : ℕ) (piece old : List ℕ) → gap_length place piece old ≤ place - length old
gap_le place [] old = omega arith
gap_le place (o ∷ piece) old = omega arith

pub image_of_written : (mask : List (Option ℕ)) (old piece new : List ℕ) (place : ℕ) → IsImage mask old → Wrote place piece old new → IsImage (mask_after_write place (length piece) mask) new
image_of_written mask old piece new place image wrote = subst (λ o. IsImage (mask_after_write place (length piece) mask) o) (sym wrote.octets) (image_at mask old place wrote.gap piece (omega (arith, wrote.gap_is, gap_le place piece old)) image)

image_places : (mask : List (Option ℕ)) (octets : List ℕ) → IsImage mask octets → (length mask ≤ length octets) × ((place stays : ℕ) → slice_get mask place ≡ Some (Some stays) → slice_get octets place ≡ Some stays)
image_places [] octets image = (omega arith, λ place stays at. absurd (cc))
image_places (k ∷ mask) [] image = absurd image
image_places (None ∷ mask) (b ∷ octets) image =
    let inner = image_places mask octets image in
    (omega (arith, inner.0), λ place stays at. elim place as (λ p. slice_get (None ∷ mask) p ≡ Some (Some stays) → slice_get (b ∷ octets) p ≡ Some stays) [ zero ↦ λ h. absurd (cc) | suc p ↦ λ h. inner.1 p stays h ] at)
image_places (Some a ∷ mask) (b ∷ octets) image =
    let inner = image_places mask octets image.1 in
    (omega (arith, inner.0), λ place stays at. elim place as (λ p. slice_get (Some a ∷ mask) p ≡ Some (Some stays) → slice_get (b ∷ octets) p ≡ Some stays) [ zero ↦ λ h. (cc (image.0)) | suc p ↦ λ h. inner.1 p stays h ] at)

places_image : (mask : List (Option ℕ)) (octets : List ℕ) → length mask ≤ length octets → ((place stays : ℕ) → slice_get mask place ≡ Some (Some stays) → slice_get octets place ≡ Some stays) → IsImage mask octets
places_image [] octets long each = tt
places_image (k ∷ mask) [] long each = absurd (omega (arith, long))
places_image (None ∷ mask) (b ∷ octets) long each = places_image mask octets (omega (arith, long)) (λ place stays at. each (suc place) stays at)
places_image (Some a ∷ mask) (b ∷ octets) long each =
    let first : Some b ≡ Some a = each 0 a refl in
    let head : b ≡ a = cc in
    (head, places_image mask octets (omega (arith, long)) (λ place stays at. each (suc place) stays at))

pub image_iff_places : (mask : List (Option ℕ)) (octets : List ℕ) → IsImage mask octets ↔ ((length mask ≤ length octets) × ((place stays : ℕ) → slice_get mask place ≡ Some (Some stays) → slice_get octets place ≡ Some stays))
image_iff_places mask octets = (image_places mask octets, λ both. places_image mask octets both.0 both.1)

pub synced_iff_front : (seen octets : List ℕ) → IsImage (mask_after_sync seen) octets ↔ (take (length seen) octets ≡ seen)
synced_iff_front seen octets = (synced_front seen octets, front_synced seen octets)
