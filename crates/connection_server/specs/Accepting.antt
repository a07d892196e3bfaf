-- What comes of accepting connections, one after the other.
use Rattle.std.specs.Prelude.{◌≡◌, ℕ, ◌+◌, ◌<◌, ◌≤◌, List, [], ◌∷◌, ◌++◌, map, Option, Some, None, Result, Ok, Err}
use Rattle.std.specs.List.{AllByRecursion}
use Rattle.environment.specs.Faults.{Rose}
use Rattle.environment.specs.Input.{Input}
use Rattle.environment.specs.Output.{Output}
use Rattle.listening.specs.Doors.{DoorView, IsFresh, IsAtEnd}
use Rattle.book_port.specs.Ports.{PortView}
use Rattle.connection_server.specs.declared.accepting.Ending.{Ending}
use Rattle.connection_server.specs.declared.accepting.Ending.TheVariants as ending
use Rattle.connection_server.specs.declared.job.LinkJob.{LinkJob}
use Rattle.connection_server.specs.declared.link.Link.{Link}
use Rattle.connection_server.specs.Jobs.{link_of}

-- both halves of a job's connection, and its port
abbrev pub halves : {S I O P : Type 0} → (S → Link I O P) → LinkJob S I O P → I × O
halves of job = ((link_of of job).input, (link_of of job).output)

abbrev pub port_in : {S I O P : Type 0} → (S → Link I O P) → LinkJob S I O P → P
port_in of job = (link_of of job).port

-- the connections have the numbers from this one on
abbrev pub AreNumbered : {S I O P : Type 0} → ℕ → List (LinkJob S I O P) → Type 0
AreNumbered first [] = Unit {0}
AreNumbered first (job ∷ jobs) = (job.number ≡ first) × AreNumbered (first + 1) jobs

-- the session, where there is one, is one that is made
abbrev pub IsMade : {S L : Type 0} → (S → Type 0) → Result S L → Type 0
IsMade makes (Ok session) = makes session
IsMade makes (Err link) = Unit {0}

-- the job's session was made, and it has its connection's number and the author of its port
pub record IsMadeFor {S I O P : Type 0} (of : S → Link I O P) (makes : S → Type 0)
    (port : P → PortView) (job : LinkJob S I O P) : Type 0 where
  pub session : IsMade makes job.session
  pub number : (link_of of job).number ≡ job.number
  pub author : job.author ≡ (port (port_in of job)).author

-- what is left behind these first connections to come, where they are told
abbrev pub LeavesBehindAll : {L : Type 0} → List L → Option (List L) → Option (List L) → Type 0
LeavesBehindAll links None now = now ≡ None
LeavesBehindAll links (Some left) now = (rest : List _) × (left ≡ links ++ rest) × (now ≡ Some rest)

-- The door gave the connections of these jobs, in this order, counted from 1, and each has the next of the ports, of which these
-- are left.
pub record Accepts {S I O P : Type 0} (reads : I → Input) (writes : O → Output)
    (of : S → Link I O P) (makes : S → Type 0) (port : P → PortView) (ports : List P)
    (old : DoorView I O) (jobs : List (LinkJob S I O P)) (left : List P) (new : DoorView I O)
    : Type 0 where
  pub given : new.given ≡ old.given ++ map (halves of) jobs
  pub told : LeavesBehindAll (map (halves of) jobs) old.left new.left
  pub fresh : AllByRecursion (IsFresh reads writes) (map (halves of) jobs)
  pub numbered : AreNumbered 1 jobs
  pub made : AllByRecursion (IsMadeFor of makes port) jobs
  pub ports_are : ports ≡ map (port_in of) jobs ++ left

-- all that were asked for were accepted; or fewer, since the door was at its end; or since it failed; or none, and the door
-- wasn't touched
abbrev pub IsEnded : {I O : Type 0} → ℕ → Ending → ℕ → DoorView I O → DoorView I O → Type 0
IsEnded count ending.All number old new = (number ≡ count) × (new.faults ≡ old.faults)
IsEnded count ending.DoorEnd number old new =
    (number < count) × IsAtEnd new.left × (new.faults ≡ old.faults)
IsEnded count ending.DoorFault number old new = (number ≤ count) × Rose old.faults new.faults
IsEnded count ending.Spent number old new = (number ≡ 0) × (new ≡ old)
IsEnded count ending.NoMemory number old new = (number ≡ 0) × (new ≡ old)

-- the door was asked
abbrev pub IsDoorEnding : Ending → Type 0
IsDoorEnding ending.All = Unit {0}
IsDoorEnding ending.DoorEnd = Unit {0}
IsDoorEnding ending.DoorFault = Unit {0}
IsDoorEnding ending.Spent = ⊥
IsDoorEnding ending.NoMemory = ⊥
