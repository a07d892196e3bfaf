-- What is seen of a dial: the connections that it gave, as they were then, those to come, where it tells them, those that were
-- handed back, as they were at their end, and how often it failed.
use Rattle.std.specs.Prelude.{◌≡◌, ℕ, ◌+◌, List, [], ◌∷◌, ◌++◌, Option, Result, Ok, Err}
use Rattle.environment.specs.Input.{Input}
use Rattle.environment.specs.Output.{Output}
use Rattle.listening.specs.Doors.{IsFresh, LeavesBehind}

pub record DialView (I O : Type 0) : Type 0 where
  pub given : List (I × O)
  pub left : Option (List (I × O))
  pub ended : List (I × O)
  pub faults : ℕ

-- a connection was made, on which nothing has failed
pub record Connects {I O : Type 0} (reads : I → Input) (writes : O → Output) (link : I × O)
    (old new : DialView I O) : Type 0 where
  pub fresh : IsFresh reads writes link
  pub given : new.given ≡ old.given ++ link ∷ []
  pub left : LeavesBehind link old.left new.left
  pub ended : new.ended ≡ old.ended
  pub quiet : new.faults ≡ old.faults

-- none was made, which is counted
pub record ConnectsNot {I O : Type 0} (old new : DialView I O) : Type 0 where
  pub counted : new ≡ record old { faults = old.faults + 1 }

abbrev pub DialGives : {I O E : Type 0} → (I → Input) → (O → Output) → Result (I × O) E
    → DialView I O → DialView I O → Type 0
DialGives reads writes (Ok link) old new = Connects reads writes link old new
DialGives reads writes (Err why) old new = ConnectsNot old new

-- a connection was handed back
abbrev pub Ends : {I O : Type 0} → I × O → DialView I O → DialView I O → Type 0
Ends link old new = new ≡ record old { ended = old.ended ++ link ∷ [] }
