-- The WINDOW_UPDATEs for what was received.
use Rattle.std.proofs.Common.{◌≡◌, ℕ, zero, suc, ◌<◌, Bool, true, false, List, [], ◌∷◌, ◌++◌, refl, sym, ◌∙◌, arith, append-nil}
use Rattle.std.proofs.lemmas.List.Concat.{flat_map-append}
use Rattle.h2_windows.specs.Written.{spelled, octets_of}
use Rattle.h2_windows.specs.Control.{window_update, granted_again}

pub ended_grant : (id size : ℕ) (ended : Bool) → 0 < size → ended ≡ true → octets_of (granted_again id size ended) ≡ octets_of (window_update 0 size ∷ [])
ended_grant id zero ended some is = absurd (omega (arith, some))
ended_grant id (suc n) true some is = refl
ended_grant id (suc n) false some is = absurd cc

pub open_grants : (id size : ℕ) (ended : Bool) → 0 < size → ended ≡ false → octets_of (granted_again id size ended) ≡ octets_of (window_update 0 size ∷ []) ++ octets_of (window_update id size ∷ [])
open_grants id zero ended some is = absurd (omega (arith, some))
open_grants id (suc n) true some is = absurd cc
open_grants id (suc n) false some is = flat_map-append spelled (window_update 0 (suc n) ∷ []) (window_update id (suc n) ∷ [])

pub first_grant : (id size : ℕ) (ended : Bool) → 0 < size → (after : List ℕ) × (octets_of (granted_again id size ended) ≡ octets_of (window_update 0 size ∷ []) ++ after)
first_grant id size true some = ([], ended_grant id size true some refl ∙ sym (append-nil (octets_of (window_update 0 size ∷ []))))
first_grant id size false some = (octets_of (window_update id size ∷ []), open_grants id size false some refl)
