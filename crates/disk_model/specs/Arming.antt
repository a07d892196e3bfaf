-- When a disk is to fail and to stop: lines that wait for its calls, each with the number of calls that still pass
-- before it hits. Each call of the disk steps them on.
use Rattle.std.specs.Prelude.{◌≡◌, ℕ, zero, suc, Bool, false, if◌then◌else◌, List, [], ◌∷◌}
use Rattle.std.specs.Prelude.{◌++◌, Option, Some, None, is_some}
use Rattle.base_kinds.specs.declared.fill.Fill.{Fill}
use Rattle.disk_model.specs.declared.outcome.Outcome.{Outcome}
use Rattle.disk_model.specs.declared.outcome.Outcome.TheVariants.{Passes, Fails, Stops}

pub record Arming : Type 0 where
  pub stops : List (ℕ × Fill)
  pub fails : List (ℕ × Unit {0})
  -- whether the disk has stopped
  pub stopped : Bool

-- the first line hits this call where its count has run down
abbrev pub hit_by : {T : Type 0} → ℕ → T → Option T
hit_by zero line = Some line
hit_by (suc passes) line = None

-- The line that hits this call. Only the first counts.
abbrev pub line_that_hits : {T : Type 0} → List (ℕ × T) → Option T
line_that_hits [] = None
line_that_hits (first ∷ later) = hit_by first.0 first.1

-- the first line is spent where it has hit, and else its count is less by this call
abbrev pub lines_behind : {T : Type 0} → ℕ → T → List (ℕ × T) → List (ℕ × T)
lines_behind zero line later = later
lines_behind (suc passes) line later = (passes, line) ∷ later

-- The lines that wait after this call. The one behind the first counts from the call after that in which the first
-- has hit.
abbrev pub lines_after : {T : Type 0} → List (ℕ × T) → List (ℕ × T)
lines_after [] = []
lines_after (first ∷ later) = lines_behind first.0 first.1 later

-- by the stop and the failure that hit a call: where both do, it stops
abbrev pub outcome_by : Option Fill → Option (Unit {0}) → Outcome
outcome_by (Some fill) failure = Stops fill
outcome_by None (Some failure) = Fails
outcome_by None None = Passes

-- what a call does: after a stop each fails
abbrev pub outcome_of : Arming → Outcome
outcome_of arming =
    if arming.stopped then Fails
    else outcome_by (line_that_hits arming.stops) (line_that_hits arming.fails)

-- What waits after the call. Each call counts for both, whatever it does. After a stop nothing counts on.
abbrev pub arming_after : Arming → Arming
arming_after arming = if arming.stopped then arming else record {
  stops = lines_after arming.stops;
  fails = lines_after arming.fails;
  stopped = is_some (line_that_hits arming.stops);
}

-- what waits after so many calls
abbrev pub arming_after_calls : ℕ → Arming → Arming
arming_after_calls zero arming = arming
arming_after_calls (suc calls) arming = arming_after_calls calls (arming_after arming)

-- what each of the next calls does
abbrev pub next_outcomes : ℕ → Arming → List Outcome
next_outcomes zero arming = []
next_outcomes (suc calls) arming = outcome_of arming ∷ next_outcomes calls (arming_after arming)

-- each of the next calls passes
abbrev pub AllPass : ℕ → Arming → Type 0
AllPass zero arming = Unit {0}
AllPass (suc calls) arming = (outcome_of arming ≡ Passes) × AllPass calls (arming_after arming)

-- a disk that hasn't stopped, and for which these lines wait
abbrev pub armed_by : List (ℕ × Fill) → List (ℕ × Unit {0}) → Arming
armed_by stops fails = record { stops = stops; fails = fails; stopped = false }

-- a disk for which nothing waits
abbrev pub unarmed : Arming
unarmed = armed_by [] []

-- one failure more that waits
abbrev pub with_failure : ℕ → Arming → Arming
with_failure passes arming = record {
  stops = arming.stops;
  fails = arming.fails ++ (passes, tt) ∷ [];
  stopped = arming.stopped;
}

-- one stop more that waits
abbrev pub with_stop : ℕ → Fill → Arming → Arming
with_stop passes fill arming = record {
  stops = arming.stops ++ (passes, fill) ∷ [];
  fails = arming.fails;
  stopped = arming.stopped;
}

-- the arming of the disk that is made of what a stop left: the lines that wait go on
abbrev pub restarted : Arming → Arming
restarted arming = armed_by arming.stops arming.fails
