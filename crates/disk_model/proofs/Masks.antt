-- Masks that begin with octets that every image has.
use Rattle.std.proofs.Common.{◌≡◌, ℕ, zero, suc, ◌+◌, ◌≤◌, List, [], ◌∷◌, ◌++◌, length, take, drop, Option, Some, refl, sym, ap, ◌∙◌, arith, length-append}
use Rattle.std.proofs.lemmas.List.{take_at, nil_from_length}
use Rattle.disk_model.specs.Content.{Wrote, gap_length}
use Rattle.disk_model.specs.Images.{IsImage, mask_after_sync, mask_after_write}

-- an image of such a mask begins with them
pub image_split : (front : List ℕ) (mask : List (Option ℕ)) (octets : List ℕ) → IsImage (mask_after_sync front ++ mask) octets → (rest : List ℕ) × (octets ≡ front ++ rest) × IsImage mask rest
image_split [] mask octets image = (octets, refl, image)
image_split (a ∷ front) mask [] image = absurd image
image_split (a ∷ front) mask (b ∷ octets) image =
    let inner = image_split front mask octets image.1 in
    (inner.0, ap (λ o. o ∷ octets) image.0 ∙ ap (λ l. a ∷ l) inner.1, inner.2)

-- a write behind them leaves them
pub touched_behind : (front : List ℕ) (mask : List (Option ℕ)) (place more n : ℕ) → place ≡ length front + more → mask_after_write place n (mask_after_sync front ++ mask) ≡ mask_after_sync front ++ mask_after_write more n mask
touched_behind [] mask place more n is = ap (λ p. mask_after_write p n mask) (omega (arith, is))
touched_behind (a ∷ front) mask zero more n is = absurd (omega (arith, is))
touched_behind (a ∷ front) mask (suc place) more n is = ap (λ l. Some a ∷ l) (touched_behind front mask place more n (omega (arith, is)))

drop_behind : (front rest : List ℕ) (place n : ℕ) → place ≡ length front → drop (place + n) (front ++ rest) ≡ drop n rest
drop_behind [] rest place n is = ap (λ p. drop p rest) (omega (arith, is))
drop_behind (a ∷ front) rest zero n is = absurd (omega (arith, is))
drop_behind (a ∷ front) rest (suc place) n is = let e : suc place + n ≡ suc (place + n) = omega arith in ap (λ p. drop p (a ∷ (front ++ rest))) e ∙ drop_behind front rest place n (omega (arith, is))

no_gap : (place : ℕ) (piece old : List ℕ) → place ≤ length old → gap_length place piece old ≡ 0
no_gap place [] old le = refl
no_gap place (o ∷ piece) old le = omega (arith, le)

-- and so does what is read after it
pub wrote_behind : (front rest piece new : List ℕ) (place : ℕ) → place ≡ length front → Wrote place piece (front ++ rest) new → new ≡ front ++ (piece ++ drop (length piece) rest)
wrote_behind front rest piece new place is wrote =
    let taken : take place (front ++ rest) ≡ front = take_at front rest place (sym is) in
    let none : wrote.gap ≡ [] = nil_from_length wrote.gap (wrote.gap_is ∙ no_gap place piece (front ++ rest) (omega (arith, is, length-append front rest))) in
    wrote.octets
    ∙ ap (λ l. l ++ (wrote.gap ++ (piece ++ drop (place + length piece) (front ++ rest)))) taken
    ∙ ap (λ g. front ++ (g ++ (piece ++ drop (place + length piece) (front ++ rest)))) none
    ∙ ap (λ l. front ++ (piece ++ l)) (drop_behind front rest place (length piece) is)
