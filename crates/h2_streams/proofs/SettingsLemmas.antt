use Rattle.std.proofs.Common.{◌≡◌, ℕ, ◌<◌, ◌≤◌, List, [], ◌∷◌, length, get_or, take, drop, length-drop, ◌-◌, refl, arith, Result, Ok, Err}
use Rattle.std.proofs.lemmas.List.{take_all}
use Rattle.base_lists.specs.Results.{and_then}
use Rattle.h2_streams.specs.declared.settings.Settings.{Settings}
use Rattle.h2_streams.specs.Payloads.{number, with_setting, with_settings}

-- the settings at the front of octets
abbrev pub first_setting : List ℕ → Settings → Result Settings ℕ
first_setting octets told =
    with_setting (number 0 (get_or octets 0 0 ∷ get_or octets 1 0 ∷ []))
    (number 0 (get_or octets 2 0 ∷ get_or octets 3 0 ∷ get_or octets 4 0 ∷ get_or octets 5 0 ∷ [])) told

pub setting_taken : (octets : List ℕ) (told : Settings) → 6 ≤ length octets → with_settings octets told ≡ and_then (first_setting octets told) (with_settings (drop 6 octets))
setting_taken [] told h = absurd (omega arith)
setting_taken (a ∷ []) told h = absurd (omega arith)
setting_taken (a ∷ b ∷ []) told h = absurd (omega arith)
setting_taken (a ∷ b ∷ c ∷ []) told h = absurd (omega arith)
setting_taken (a ∷ b ∷ c ∷ d ∷ []) told h = absurd (omega arith)
setting_taken (a ∷ b ∷ c ∷ d ∷ e ∷ []) told h = absurd (omega arith)
setting_taken (a ∷ b ∷ c ∷ d ∷ e ∷ f ∷ rest) told h = refl

pub no_setting : (octets : List ℕ) (told : Settings) → length octets < 6 → with_settings octets told ≡ Ok told
no_setting [] told h = refl
no_setting (a ∷ []) told h = refl
no_setting (a ∷ b ∷ []) told h = refl
no_setting (a ∷ b ∷ c ∷ []) told h = refl
no_setting (a ∷ b ∷ c ∷ d ∷ []) told h = refl
no_setting (a ∷ b ∷ c ∷ d ∷ e ∷ []) told h = refl
no_setting (a ∷ b ∷ c ∷ d ∷ e ∷ f ∷ rest) told h = absurd (omega arith)

pub one_more : (octets : List ℕ) (told next : Settings) → 6 ≤ length octets → first_setting octets told ≡ Ok next → with_settings octets told ≡ with_settings (drop 6 octets) next
one_more octets told next h e = rw (setting_taken octets told h, e) refl

pub refused : (octets : List ℕ) (told : Settings) (code : ℕ) → 6 ≤ length octets → first_setting octets told ≡ Err code → with_settings octets told ≡ Err code
refused octets told code h e = rw (setting_taken octets told h, e) refl

pub behind_six : (octets : List ℕ) → take (length octets - 6) (drop 6 octets) ≡ drop 6 octets
behind_six octets = take_all (length octets - 6) (drop 6 octets) (omega (arith, length-drop 6 octets))
