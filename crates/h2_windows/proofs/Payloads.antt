-- Octets cut into payloads.
use Rattle.std.proofs.Common.{◌≡◌, ℕ, zero, suc, ◌<◌, ◌≤◌, min, List, [], ◌∷◌, ◌++◌, length, take, drop, map, refl, sym, ap, ◌∙◌, arith, length-drop}
use Rattle.std.proofs.lemmas.Grind.{common_steps}
use Rattle.h2_windows.specs.Written.{spelled, octets_of}
use Rattle.h2_windows.specs.Sending.{payloads_in, payloads, data_frame, data_frames, largest_payload}

-- any number that is large enough gives the same payloads
pub payloads_any : (a b : ℕ) (octets : List ℕ) → length octets ≤ a → length octets ≤ b → payloads_in a octets ≡ payloads_in b octets
payloads_any zero zero octets p q = refl
payloads_any zero (suc b) [] p q = refl
payloads_any zero (suc b) (o ∷ octets) p q = absurd (omega (arith, p))
payloads_any (suc a) zero [] p q = refl
payloads_any (suc a) zero (o ∷ octets) p q = absurd (omega (arith, q))
payloads_any (suc a) (suc b) [] p q = refl
payloads_any (suc a) (suc b) (o ∷ octets) p q = ap (λ ps. take largest_payload (o ∷ octets) ∷ ps) (payloads_any a b (drop largest_payload (o ∷ octets)) (omega (arith, p, length-drop largest_payload (o ∷ octets))) (omega (arith, q, length-drop largest_payload (o ∷ octets))))

-- the first payload, and those of the rest
pub payloads_first : (octets : List ℕ) → 0 < length octets → payloads octets ≡ take largest_payload octets ∷ payloads (drop largest_payload octets)
payloads_first [] some = absurd (omega (arith, some))
payloads_first (o ∷ octets) some = ap (λ ps. take largest_payload (o ∷ octets) ∷ ps) (payloads_any (length octets) (length (drop largest_payload (o ∷ octets))) (drop largest_payload (o ∷ octets)) (omega (arith, length-drop largest_payload (o ∷ octets))) (omega arith))

pub data_first : (stream : ℕ) (octets : List ℕ) → 0 < length octets → octets_of (data_frames stream octets) ≡ spelled (data_frame stream (take largest_payload octets)) ++ octets_of (data_frames stream (drop largest_payload octets))
data_first stream octets some = ap (λ ps. octets_of (map (data_frame stream) ps)) (payloads_first octets some)

pub take_least : {X : Type 0} (n : ℕ) (xs : List X) → take (min (length xs) n) xs ≡ take n xs
take_least n xs = grind (arith, common_steps)

pub drop_least : {X : Type 0} (n : ℕ) (xs : List X) → drop (min (length xs) n) xs ≡ drop n xs
drop_least n xs = grind (arith, common_steps)

-- one frame more
pub next_data : (stream : ℕ) (octets rest payload after done : List ℕ) (m : ℕ) → m ≡ min (length rest) largest_payload → 0 < length rest → payload ≡ take m rest → after ≡ drop m rest → octets_of (data_frames stream octets) ≡ done ++ octets_of (data_frames stream rest) → octets_of (data_frames stream octets) ≡ done ++ (spelled (data_frame stream payload) ++ octets_of (data_frames stream after))
next_data stream octets rest payload after done m is some first behind parts =
    let p : payload ≡ take largest_payload rest = first ∙ ap (λ n. take n rest) is ∙ take_least largest_payload rest in
    let q : after ≡ drop largest_payload rest = behind ∙ ap (λ n. drop n rest) is ∙ drop_least largest_payload rest in
    parts ∙ ap (λ os. done ++ os) (data_first stream rest some) ∙ sym (ap (λ p. done ++ (spelled (data_frame stream p) ++ octets_of (data_frames stream (drop largest_payload rest)))) p ∙ refl) ∙ sym (ap (λ a. done ++ (spelled (data_frame stream payload) ++ octets_of (data_frames stream a))) q)
