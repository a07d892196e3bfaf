-- Weights taken off what is left of a limit. Private functions alone cite this.
use Rattle.std.specs.Prelude.{◌≡◌, ℕ, ◌+◌, ◌<◌, Option, MatchOption}

-- what is left after this weight, and none where it is too heavy
abbrev pub IsLeft : ℕ → ℕ → Option ℕ → Type 0
IsLeft left weight result = MatchOption result (left < weight) (λ rest. rest + weight ≡ left)
