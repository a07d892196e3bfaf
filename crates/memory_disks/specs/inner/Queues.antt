-- A list of lines that wait, with its first apart.
use Rattle.std.specs.Prelude.{◌≡◌, ℕ, List, [], ◌∷◌, Option, Some, None}

-- the first, where there is one, and those behind it
abbrev pub in_order : {T : Type 0} → Option (ℕ × T) → List (ℕ × T) → List (ℕ × T)
in_order None later = later
in_order (Some first) later = first ∷ later

-- nothing stands behind a first that isn't there
abbrev pub HasFirst : {T : Type 0} → Option (ℕ × T) → List (ℕ × T) → Type 0
HasFirst None later = later ≡ []
HasFirst (Some first) later = Unit {0}
