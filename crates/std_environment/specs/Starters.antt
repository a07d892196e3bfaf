-- A starter of threads: the calls so far, the numbers of those that it refuses and of those that its twins do, and how many jobs it
-- gave back. Numbers and texts are those of an object in memory that fails where it is told to.
use Rattle.std.specs.Prelude.{◌≡◌, ℕ, List, IsErr, Result}
use Rattle.environment.specs.Faults.{HasCause}
use Rattle.environment.specs.Memory.{IsToFail, next_count}

pub record StarterView : Type 0 where
  pub calls : ℕ
  pub own : List (List ℕ)
  pub twins : List (List ℕ)
  pub faults : ℕ

-- as it is made
abbrev pub new_starter : List (List ℕ) → List (List ℕ) → StarterView
new_starter own twins = record { calls = 0; own = own; twins = twins; faults = 0 }

-- after a call
abbrev pub starter_after : StarterView → ℕ → StarterView
starter_after s faults = record s { calls = next_count s.calls; faults = faults }

-- a thread was started, unless that failed or was to be refused, and then it is counted
pub record Starts {T E : Type 0} (result : Result T E) (old new : StarterView) : Type 0 where
  pub after : new ≡ starter_after old new.faults
  pub cause : HasCause old.faults new.faults result
  pub listed : IsToFail old.own old.calls → IsErr result
