-- What comes of serving connections over one book.
use Rattle.std.specs.Prelude.{◌≡◌, ◌⊎◌, ℕ, List, [], ◌∷◌, ◌++◌, length, map}
use Rattle.std.specs.List.{AllByRecursion}
use Rattle.environment.specs.Input.{Input}
use Rattle.environment.specs.Output.{Output}
use Rattle.listening.specs.Doors.{DoorView, IsFresh}
use Rattle.book_port.specs.Ports.{PortView}
use Rattle.session_core.specs.declared.how.How.{How}
use Rattle.session_core.specs.declared.how.How.TheVariants.{NoMemory}
use Rattle.connection_server.specs.declared.accepting.Ending.{Ending}
use Rattle.connection_server.specs.declared.link.Link.{Link}
use Rattle.connection_server.specs.declared.link.LinkEnd.{LinkEnd}
use Rattle.connection_server.specs.declared.link.LinkLeft.{LinkLeft}
use Rattle.connection_server.specs.Accepting.{IsEnded, LeavesBehindAll}
use Rattle.connection_server.specs.Jobs.{IsEndOf, left_unserved}
use Rattle.connection_server.specs.Joining.{AreCounted}
use Rattle.connection_server.specs.Serving.{behind_twins}
use Rattle.connection_server.specs.Twins.{AreTwins, MeetEach}
use Rattle.gnmi_server.specs.Sessions.{ServesLink}

-- a connection: what its session was handed, and what it left
pub record Served (I O : Type 0) : Type 0 where
  pub link : Link I O PortView
  pub left : LinkLeft I O PortView How

-- both halves of the connection
abbrev pub halves_of : {I O : Type 0} → Served I O → I × O
halves_of one = (one.link.input, one.link.output)

-- these are the records of these connections, each in its place
abbrev pub AreEndsOf : {I O : Type 0} → List (Served I O) → List (LinkEnd I O How) → Type 0
AreEndsOf [] [] = Unit {0}
AreEndsOf (one ∷ served) (end ∷ ends) =
    IsEndOf one.link.number one.link.port.author one.left end × AreEndsOf served ends
AreEndsOf served ends = ⊥

module _ {I O : Type 0} (reads : I → Input) (writes : O → Output) where
  -- its session has served it; or memory was wanting for a session, and it was closed at once
  abbrev pub IsServedOrClosed : Served I O → Type 0
  IsServedOrClosed one =
      ServesLink reads writes one.link one.left ⊎ (one.left ≡ left_unserved NoMemory one.link)

  -- Ports for all connections were made of the acceptor's, and the door gave these, in this order. Each was served at one of the
  -- ports to its end. The acceptor's port has met the ports of all, and then those for which no connection came.
  pub record ServesBook (count : ℕ) (how : Ending) (ends : List (LinkEnd I O How))
      (old : PortView) (door_old : DoorView I O) (new : PortView) (door_new : DoorView I O)
      : Type 0 where
    pub served : List (Served I O)
    pub unused : List PortView
    pub last : PortView
    pub twins : AreTwins old (map (λ one. one.link.port) served ++ unused) last
    pub given : door_new.given ≡ door_old.given ++ map halves_of served
    pub told : LeavesBehindAll (map halves_of served) door_old.left door_new.left
    pub fresh : AllByRecursion (IsFresh reads writes) (map halves_of served)
    pub ended : IsEnded count how (length served) door_old door_new
    pub numbered : AreCounted 1 (map (λ one. one.link.number) served)
    pub each : AllByRecursion IsServedOrClosed served
    pub ends_are : AreEndsOf served ends
    pub met : MeetEach (behind_twins how last) (map (λ one. one.left.port) served ++ unused) new
