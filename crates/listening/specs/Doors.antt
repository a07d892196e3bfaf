-- What is seen of a door: the connections that it gave, as they were then, those to come, where it tells them, and how often it
-- failed.
use Rattle.std.specs.Prelude.{◌≡◌, ℕ, List, [], ◌∷◌, ◌++◌, Option, Some, None, Result}
use Rattle.environment.specs.Faults.{Rose, HasCause}
use Rattle.environment.specs.Input.{Input}
use Rattle.environment.specs.Output.{Output}
use Rattle.listening.specs.declared.door.Next.{Next}
use Rattle.listening.specs.declared.door.Next.TheVariants as next

pub record DoorView (I O : Type 0) : Type 0 where
  pub given : List (I × O)
  pub left : Option (List (I × O))
  pub faults : ℕ

-- no read or write of a connection has failed
abbrev pub IsFresh : {I O : Type 0} → (I → Input) → (O → Output) → I × O → Type 0
IsFresh reads writes link = ((reads link.0).faults ≡ 0) × ((writes link.1).faults ≡ 0)

-- what is left behind the first of the connections to come, where they are told
abbrev pub LeavesBehind : {L : Type 0} → L → Option (List L) → Option (List L) → Type 0
LeavesBehind link None now = now ≡ None
LeavesBehind link (Some left) now = (rest : List _) × (left ≡ link ∷ rest) × (now ≡ Some rest)

-- No connection is left. A door that doesn't tell which ones come is never at its end.
abbrev pub IsAtEnd : {L : Type 0} → Option (List L) → Type 0
IsAtEnd None = ⊥
IsAtEnd (Some left) = left ≡ []

-- what is seen behind what came next
abbrev pub NextGives : {I O : Type 0} → (I → Input) → (O → Output) → Next I O
    → DoorView I O → DoorView I O → Type 0
NextGives reads writes (next.Link reader writer) old new =
    IsFresh reads writes (reader, writer)
    × (new.given ≡ old.given ++ (reader, writer) ∷ [])
    × LeavesBehind (reader, writer) old.left new.left
    × (new.faults ≡ old.faults)
NextGives reads writes next.End old new = (new ≡ old) × IsAtEnd old.left
NextGives reads writes next.Failed old new =
    (new ≡ record old { faults = new.faults }) × Rose old.faults new.faults

-- the door is open, or that failed
pub record Listens {E : Type 0} {I O : Type 0} (result : Result (Unit {0}) E)
    (old new : DoorView I O) : Type 0 where
  pub same : new ≡ record old { faults = new.faults }
  pub cause : HasCause old.faults new.faults result
