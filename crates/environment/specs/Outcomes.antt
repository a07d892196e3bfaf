-- What a thread gives that was started for a job.
use Rattle.std.specs.Prelude.{◌≡◌, Option, Some, None}
use Rattle.environment.specs.declared.running.Outcome.{Outcome}
use Rattle.environment.specs.declared.running.Outcome.TheVariants as outcome

-- one of the job's results, or the job itself
abbrev pub ComesOf : {J D : Type 0} → (J → D → Type 0) → J → Outcome J D → Type 0
ComesOf gives job (outcome.Done done) = gives job done
ComesOf gives job (outcome.Back back) = back ≡ job

-- the job has given something, and it is one of its results
abbrev pub IsDone : {J D : Type 0} → (J → D → Type 0) → J → Option D → Type 0
IsDone gives job None = ⊥
IsDone gives job (Some done) = gives job done
