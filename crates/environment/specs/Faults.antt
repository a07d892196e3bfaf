-- The count of faults that an object of the environment keeps. It never falls, and has no end.
use Rattle.std.specs.Prelude.{◌≡◌, ℕ, ◌<◌, ◌≤◌, Result, OnOk, OnErr}

-- at least one fault more
abbrev pub Rose : ℕ → ℕ → Type 0
Rose before now = before < now

-- a failure is answered only where the count rose, and without one the count stays
pub record HasCause {T E : Type 0} (before now : ℕ) (result : Result T E) : Type 0 where
  pub later : before ≤ now
  pub failed : OnErr result (Rose before now)
  pub quiet : OnOk result (now ≡ before)
