-- The texts of values, one after another.
use Rattle.std.specs.Prelude.{ℕ, zero, suc, List, [], ◌∷◌}

-- what stands before the value at this place: a comma, but for the first
abbrev pub separator : ℕ → List ℕ
separator zero = []
separator (suc place) = 44 ∷ []
