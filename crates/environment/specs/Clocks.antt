-- A clock in memory: the readings that it has to come, and those that it gave.
use Rattle.std.specs.Prelude.{ℕ, List, [], ◌∷◌, ◌++◌}

pub record StepState : Type 0 where
  pub to_come : List ℕ
  pub given : List ℕ

abbrev pub next_reading : List ℕ → ℕ
next_reading [] = 0
next_reading (reading ∷ readings) = reading

-- the last reading is repeated
abbrev pub later_readings : List ℕ → List ℕ
later_readings [] = []
later_readings (reading ∷ []) = reading ∷ []
later_readings (reading ∷ next ∷ readings) = next ∷ readings

abbrev pub after_reading : StepState → StepState
after_reading clock = record {
  to_come = later_readings clock.to_come;
  given = clock.given ++ next_reading clock.to_come ∷ [];
}
