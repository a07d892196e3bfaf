-- A text with one octet more, up to its last line feed.
use Rattle.std.proofs.Common.{◌≡◌, ℕ, ◌+◌, ◌-◌, ◌<◌, ◌≤◌, List, [], ◌∷◌, ◌++◌, Bool, true, false, eqb, length, take, get_or, refl, sym, ap, ◌∙◌, subst, arith, if◌then◌else◌}
use Rattle.std.proofs.lemmas.Bool.Decides.{Decides-eqb}
use Rattle.std.proofs.lemmas.List.{take_more, length-take}
use Rattle.script_run.specs.ScriptOctets.{before_feed, to_last_feed}

pub feed_last : (text : List ℕ) → to_last_feed (text ++ 10 ∷ []) ≡ text ++ 10 ∷ []
feed_last [] = refl
feed_last (octet ∷ octets) = ap (before_feed octet) (feed_last octets) ∙ kept octets
  where
    kept : (others : List ℕ) → before_feed octet (others ++ 10 ∷ []) ≡ octet ∷ (others ++ 10 ∷ [])
    kept [] = refl
    kept (other ∷ others) = refl

pub other_last : (text : List ℕ) (last : ℕ) → eqb last 10 ≡ false → to_last_feed (text ++ last ∷ []) ≡ to_last_feed text
other_last [] last none = ap (λ b. if b then last ∷ [] else []) none
other_last (octet ∷ octets) last none = ap (before_feed octet) (other_last octets last none)

split_last : (text : List ℕ) (end : ℕ) → 0 < end → end ≤ length text → take end text ≡ take (end - 1) text ++ get_or text (end - 1) 0 ∷ []
split_last text end some within =
    let e : end - 1 + 1 ≡ end = omega (arith, some) in
    subst (λ n. take n text ≡ take (end - 1) text ++ get_or text (end - 1) 0 ∷ []) e (take_more text (end - 1) 0 (omega (arith, some, within)))

pub feed_found : (text : List ℕ) (end : ℕ) → 0 < end → end ≤ length text → get_or text (end - 1) 0 ≡ 10 → to_last_feed (take end text) ≡ to_last_feed text → take end text ≡ to_last_feed text
feed_found text end some within is front =
    let at : take end text ≡ take (end - 1) text ++ 10 ∷ [] = split_last text end some within ∙ ap (λ octet. take (end - 1) text ++ octet ∷ []) is in
    at ∙ sym (feed_last (take (end - 1) text)) ∙ sym (ap to_last_feed at) ∙ front

unless_true : (b : Bool) → (b ≡ true → ⊥) → b ≡ false
unless_true true never = absurd (never refl)
unless_true false never = refl

pub other_found : (text : List ℕ) (end : ℕ) → 0 < end → end ≤ length text → (get_or text (end - 1) 0 ≡ 10 → ⊥) → to_last_feed (take end text) ≡ to_last_feed text → to_last_feed (take (end - 1) text) ≡ to_last_feed text
other_found text end some within none front =
    let octet : ℕ = get_or text (end - 1) 0 in
    let differs : eqb octet 10 ≡ false = unless_true (eqb octet 10) (λ yes. none ((Decides-eqb octet 10).0 yes)) in
    sym (other_last (take (end - 1) text) octet differs) ∙ sym (ap to_last_feed (split_last text end some within)) ∙ front

pub front_is_short : (limit : ℕ) (text : List ℕ) → length (take limit text) ≤ limit
front_is_short limit text = omega (arith, length-take limit text)
