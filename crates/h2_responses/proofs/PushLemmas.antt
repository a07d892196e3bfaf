-- Settings, six octets each.
use Rattle.std.proofs.Common.{◌≡◌, ap, ◌∙◌, ℕ, ◌<◌, ◌≤◌, ◌==◌, List, [], ◌∷◌, Bool, false, length, get_or, drop, refl, arith, nat_lt}
use Rattle.std.specs.Prelude.{◌&&◌, ◌||◌}
use Rattle.h2_streams.specs.Payloads.{number}
use Rattle.h2_responses.specs.Meanings.{has_push}

-- the setting at the front of octets enables push
abbrev pub is_push : List ℕ → Bool
is_push octets =
    (get_or octets 0 0 == 0) && (get_or octets 1 0 == 2)
    && nat_lt 0 (number 0 (get_or octets 2 0 ∷ get_or octets 3 0 ∷ get_or octets 4 0 ∷ get_or octets 5 0 ∷ []))

pub push_taken : (octets : List ℕ) → 6 ≤ length octets → has_push octets ≡ is_push octets || has_push (drop 6 octets)
push_taken [] h = absurd (omega arith)
push_taken (a ∷ []) h = absurd (omega arith)
push_taken (a ∷ b ∷ []) h = absurd (omega arith)
push_taken (a ∷ b ∷ c ∷ []) h = absurd (omega arith)
push_taken (a ∷ b ∷ c ∷ d ∷ []) h = absurd (omega arith)
push_taken (a ∷ b ∷ c ∷ d ∷ e ∷ []) h = absurd (omega arith)
push_taken (a ∷ b ∷ c ∷ d ∷ e ∷ f ∷ rest) h = refl

pub no_push : (octets : List ℕ) → length octets < 6 → has_push octets ≡ false
no_push [] h = refl
no_push (a ∷ []) h = refl
no_push (a ∷ b ∷ []) h = refl
no_push (a ∷ b ∷ c ∷ []) h = refl
no_push (a ∷ b ∷ c ∷ d ∷ []) h = refl
no_push (a ∷ b ∷ c ∷ d ∷ e ∷ []) h = refl
no_push (a ∷ b ∷ c ∷ d ∷ e ∷ f ∷ rest) h = absurd (omega arith)

pub push_step : (octets : List ℕ) → 6 ≤ length octets → is_push octets ≡ false → has_push octets ≡ has_push (drop 6 octets)
push_step octets h e = push_taken octets h ∙ ap (λ (b : Bool). b || has_push (drop 6 octets)) e
