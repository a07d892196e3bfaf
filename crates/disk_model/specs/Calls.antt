-- Which calls of a disk fail: those that its arming says, and else only for want of memory.
use Rattle.std.specs.Prelude.{◌≡◌, ℕ, ◌<◌, ◌≤◌, Bool, true, length, min, drop, Option}
use Rattle.std.specs.Prelude.{Result, MatchResult, option_map, IfSome}
use Rattle.disk_model.specs.Arming.{Arming, AllPass, outcome_of, arming_after, arming_after_calls}
use Rattle.disk_model.specs.Content.{Content, Tells}
use Rattle.disk_model.specs.declared.outcome.Outcome.TheVariants.{Passes}

-- What makes the calls of a disk fail.
pub record Fuse : Type 0 where
  -- when it is to fail and to stop; of a disk that can't be armed nothing is known
  pub arming : Option Arming
  -- whether it has failed for want of memory
  pub starved : Bool

-- the arming is changed
abbrev pub armed_with : (Arming → Arming) → Fuse → Fuse
armed_with change fuse = record { arming = option_map change fuse.arming; starved = fuse.starved }

-- memory was wanting
abbrev pub starved : Fuse → Fuse
starved fuse = record { arming = fuse.arming; starved = true }

-- so many calls were made, and each of them passed
pub record CallsPassed (calls : ℕ) (old new : Fuse) : Type 0 where
  pub arming : new.arming ≡ option_map (arming_after_calls calls) old.arming
  pub passed : IfSome old.arming (AllPass calls)
  pub fed : new.starved ≡ old.starved

-- one call was made, and failed
pub record CallFailed (old new : Fuse) : Type 0 where
  pub arming : new.arming ≡ option_map arming_after old.arming
  pub cause : IfSome old.arming (λ arming. outcome_of arming ≡ Passes → new.starved ≡ true)
  pub starved : old.starved ≡ true → new.starved ≡ true

-- a call passes or fails
abbrev pub CallEnds : {T E : Type 0} → Fuse → Fuse → Result T E → Type 0
CallEnds old new result = MatchResult result (λ _. CallsPassed 1 old new) (λ _. CallFailed old new)

-- so many calls passed, and the next one failed
pub record CallsFailed (calls : ℕ) (old new : Fuse) : Type 0 where
  pub last : Fuse
  pub passed : CallsPassed calls old last
  pub failed : CallFailed last new

-- of at most so many calls one failed, and those before it passed
pub record FailsWithin (calls : ℕ) (old new : Fuse) : Type 0 where
  pub made : ℕ
  pub within : made < calls
  pub failed : CallsFailed made old new

-- at most so many calls were made, and each of them passed
pub record PassesWithin (calls : ℕ) (old new : Fuse) : Type 0 where
  pub made : ℕ
  pub within : made ≤ calls
  pub passed : CallsPassed made old new

-- so many calls, of which each passed; or else one failed, and none behind it was made
abbrev pub CallsEnd : {T E : Type 0} → ℕ → Fuse → Fuse → Result T E → Type 0
CallsEnd calls old new result =
    MatchResult result (λ _. CallsPassed calls old new) (λ _. FailsWithin calls old new)

-- where a disk can be armed and tells its content, a fact of that
abbrev pub WhereArmed : Fuse → Option Content → (Content → Type 0) → Type 0
WhereArmed fuse told fact = IfSome fuse.arming (λ _. Tells told fact)

-- a disk that can be armed fills the buffer as far as there are octets
abbrev pub FillsBuffer : Fuse → Option Content → ℕ → ℕ → ℕ → Type 0
FillsBuffer fuse told place room count =
    WhereArmed fuse told (λ c. count ≡ min room (length (drop place c.seen)))
