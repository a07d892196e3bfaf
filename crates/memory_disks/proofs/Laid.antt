-- Octets that are written over and painted.
use Rattle.std.proofs.Common.{◌≡◌, ℕ, zero, suc, ◌+◌, ◌-◌, ◌≤◌, ◌<◌, min, List, [], ◌∷◌, ◌++◌, length, take, drop, replicate, refl, sym, ap, ◌∙◌, arith, append_assoc}
use Rattle.std.proofs.lemmas.List.{length-replicate, take-replicate, take_all, drop_all, append-nil}
use Rattle.disk_model.specs.Content.{Wrote, gap_length}
use Rattle.disk_model.specs.Images.{with_range_filled}
use Rattle.memory_disks.specs.Octets.{octets_after_write, with_ranges_filled}

take_both : (n : ℕ) (xs ys : List ℕ) → take n (xs ++ ys) ≡ take n xs ++ take (n - length xs) ys
take_both n [] ys = ap (λ k. take k ys) (omega arith) ∙ ap (λ t. t ++ take (n - 0) ys) (sym (take_all n [] (omega arith)))
take_both zero (x ∷ xs) ys = let e : 0 - length (x ∷ xs) ≡ 0 = omega arith in sym (ap (λ k. take k ys) e)
take_both (suc n) (x ∷ xs) ys = let e : suc n - length (x ∷ xs) ≡ n - length xs = omega arith in ap (λ t. x ∷ t) (take_both n xs ys) ∙ ap (λ k. x ∷ (take n xs ++ take k ys)) (sym e)

drop_both : (n : ℕ) (xs : List ℕ) (m : ℕ) → m ≡ n - length xs → drop n (xs ++ replicate m 0) ≡ drop n xs
drop_both n [] m is = drop_all n (replicate m 0) (omega (arith, is, length-replicate {A = ℕ} m 0)) ∙ sym (drop_all n [] (omega arith))
drop_both zero (x ∷ xs) m is = let none : m ≡ 0 = omega (arith, is) in ap (λ k. x ∷ (xs ++ replicate k 0)) none ∙ ap (λ l. x ∷ l) (append-nil xs)
drop_both (suc n) (x ∷ xs) m is = drop_both n xs m (omega (arith, is))

gap_of : (place : ℕ) (piece old : List ℕ) → 0 < length piece → gap_length place piece old ≡ place - length old
gap_of place [] old some = absurd (omega (arith, some))
gap_of place (o ∷ piece) old some = refl

-- octets that are filled up with zeros, and then hold a piece that isn't empty
pub laid_of : (old grown piece new : List ℕ) (place end : ℕ) → 0 < length piece → end ≡ place + length piece → grown ≡ old ++ replicate (end - length old) 0 → new ≡ take place grown ++ (piece ++ drop (place + length piece) grown) → new ≡ octets_after_write place piece old
laid_of old grown piece new place end some end_is grown_is new_is =
    let short : place - length old ≤ end - length old = omega (arith, end_is) in
    let rest : end - length old ≡ place + length piece - length old = omega (arith, end_is) in
    let zeros = replicate (end - length old) 0 in
    let gap : take (place - length old) zeros ≡ replicate (gap_length place piece old) 0 = take-replicate {X = ℕ} (place - length old) (end - length old) 0 short ∙ ap (λ k. replicate k 0) (sym (gap_of place piece old some)) in
    let head : take place grown ≡ take place old ++ replicate (gap_length place piece old) 0 = ap (λ g. take place g) grown_is ∙ take_both place old zeros ∙ ap (λ g. take place old ++ g) gap in
    let tail : drop (place + length piece) grown ≡ drop (place + length piece) old = ap (λ g. drop (place + length piece) g) grown_is ∙ drop_both (place + length piece) old (end - length old) rest in
    let whole : new ≡ (take place old ++ replicate (gap_length place piece old) 0) ++ (piece ++ drop (place + length piece) old) = new_is ∙ ap (λ h. h ++ (piece ++ drop (place + length piece) grown)) head ∙ ap (λ t. (take place old ++ replicate (gap_length place piece old) 0) ++ (piece ++ t)) tail in
    whole ∙ append_assoc (take place old) (replicate (gap_length place piece old) 0) (piece ++ drop (place + length piece) old)

-- the places are written with the octet, as far as they are there
pub painted_within : (octet place n : ℕ) (octets : List ℕ) → with_range_filled octet place n octets ≡ take place octets ++ (replicate (min n (length octets - place)) octet ++ drop (place + min n (length octets - place)) octets)
painted_within octet place n [] = sym (ap (λ t. t ++ (replicate (min n (0 - place)) octet ++ drop (place + min n (0 - place)) [])) (take_all place [] (omega arith)) ∙ ap (λ k. replicate k octet ++ drop (place + k) []) none ∙ drop_all (place + 0) [] (omega arith))
  where
    none : min n (0 - place) ≡ 0
    none = omega arith
painted_within octet (suc place) n (o ∷ octets) =
    let k : min n (length (o ∷ octets) - suc place) ≡ min n (length octets - place) = omega arith in
    let e : suc place + min n (length octets - place) ≡ suc (place + min n (length octets - place)) = omega arith in
    ap (λ l. o ∷ l) (painted_within octet place n octets)
    ∙ sym (ap (λ m. o ∷ (take place octets ++ (replicate m octet ++ drop (suc place + m) (o ∷ octets)))) k ∙ ap (λ m. o ∷ (take place octets ++ (replicate (min n (length octets - place)) octet ++ drop m (o ∷ octets)))) e)
painted_within octet zero zero (o ∷ octets) =
    let none : min 0 (length (o ∷ octets) - 0) ≡ 0 = omega arith in
    let zero_is : 0 + 0 ≡ 0 = omega arith in sym (ap (λ k. replicate k octet ++ drop (0 + k) (o ∷ octets)) none ∙ ap (λ k. drop k (o ∷ octets)) zero_is)
painted_within octet zero (suc n) (o ∷ octets) =
    let more : min (suc n) (length (o ∷ octets) - 0) ≡ suc (min n (length octets - 0)) = omega arith in
    let same : 0 + min n (length octets - 0) ≡ min n (length octets - 0) = omega arith in
    let step : 0 + suc (min n (length octets - 0)) ≡ suc (min n (length octets - 0)) = omega arith in
    ap (λ l. octet ∷ l) (painted_within octet zero n octets ∙ ap (λ k. replicate (min n (length octets - 0)) octet ++ drop k octets) same)
    ∙ sym (ap (λ k. replicate k octet ++ drop (0 + k) (o ∷ octets)) more ∙ ap (λ k. octet ∷ (replicate (min n (length octets - 0)) octet ++ drop k (o ∷ octets))) step)

-- nothing is there to paint
pub painted_past : (octet place n : ℕ) (octets : List ℕ) → length octets ≤ place → octets ≡ with_range_filled octet place n octets
painted_past octet place n [] le = refl
painted_past octet zero n (o ∷ octets) le = absurd (omega (arith, le))
painted_past octet (suc place) n (o ∷ octets) le = ap (λ l. o ∷ l) (painted_past octet place n octets (omega (arith, le)))

pub wrote_laid : (place : ℕ) (piece old : List ℕ) → Wrote place piece old (octets_after_write place piece old)
wrote_laid place piece old = record { gap = replicate (gap_length place piece old) 0; gap_is = length-replicate {A = ℕ} (gap_length place piece old) 0; octets = refl }

pub painted_is : (octets new : List ℕ) (octet place n count : ℕ) → count ≡ min n (length octets - place) → new ≡ take place octets ++ (replicate count octet ++ drop (place + count) octets) → new ≡ with_range_filled octet place n octets
painted_is octets new octet place n count is new_is = new_is ∙ ap (λ k. take place octets ++ (replicate k octet ++ drop (place + k) octets)) is ∙ sym (painted_within octet place n octets)

-- one range more
pub all_painted_more : (octet : ℕ) (ranges : List (ℕ × ℕ)) (place n : ℕ) (octets : List ℕ) → with_ranges_filled octet (ranges ++ (place, n) ∷ []) octets ≡ with_range_filled octet place n (with_ranges_filled octet ranges octets)
all_painted_more octet [] place n octets = refl
all_painted_more octet (range ∷ ranges) place n octets = all_painted_more octet ranges place n (with_range_filled octet range.0 range.1 octets)
