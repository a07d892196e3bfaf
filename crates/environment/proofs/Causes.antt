-- The count of faults over several calls.
use Rattle.std.proofs.Common.{◌≡◌, ℕ, ◌≤◌, Result, subst, arith}
use Rattle.environment.specs.Faults.{Rose, HasCause}

-- a count that rose stays risen
pub Rose-later : (before mid now : ℕ) → Rose before mid → mid ≤ now → Rose before now
Rose-later before mid now rose later = omega (arith, rose, later)

pub Rose-earlier : (before mid now : ℕ) → before ≤ mid → Rose mid now → Rose before now
Rose-earlier before mid now later rose = omega (arith, later, rose)

pub Rose-again : (before mid now : ℕ) → Rose before mid → Rose mid now → Rose before now
Rose-again before mid now first second = omega (arith, first, second)

-- a cause stays one where the calls before met no fault
pub HasCause-after_quiet : {T E : Type 0} (before mid now : ℕ) (result : Result T E) → mid ≡ before → HasCause mid now result → HasCause before now result
HasCause-after_quiet before mid now result quiet cause = subst (λ n. HasCause n now result) quiet cause
