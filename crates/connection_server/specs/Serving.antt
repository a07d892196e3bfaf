-- What comes of serving connections.
use Rattle.std.specs.Prelude.{◌≡◌, ℕ, List, ◌++◌, length, map}
use Rattle.environment.specs.Input.{Input}
use Rattle.environment.specs.Output.{Output}
use Rattle.listening.specs.Doors.{DoorView}
use Rattle.book_port.specs.Ports.{PortView, knows_all}
use Rattle.connection_server.specs.declared.accepting.Ending.{Ending}
use Rattle.connection_server.specs.declared.accepting.Ending.TheVariants as ending
use Rattle.connection_server.specs.declared.job.LinkDone.{LinkDone}
use Rattle.connection_server.specs.declared.job.LinkJob.{LinkJob}
use Rattle.connection_server.specs.declared.link.Link.{Link}
use Rattle.connection_server.specs.declared.link.LinkEnd.{LinkEnd}
use Rattle.connection_server.specs.Accepting.{Accepts, IsEnded}
use Rattle.connection_server.specs.Joining.{CameOf}
use Rattle.connection_server.specs.Twins.{AreTwins, MeetEach}

-- what a port knows behind the twins that were made of it
abbrev pub behind_twins : Ending → PortView → PortView
behind_twins ending.Spent port = knows_all port
behind_twins _ port = port

-- Ports for all sessions were made of the acceptor's, and connections accepted, for which the door gave these jobs theirs. These
-- ports are left.
pub record Begins {S I O P : Type 0} (reads : I → Input) (writes : O → Output)
    (of : S → Link I O P) (makes : S → Type 0) (port : P → PortView) (count : ℕ) (how : Ending)
    (old : PortView) (door_old : DoorView I O) (jobs : List (LinkJob S I O P)) (left : List P)
    (new : PortView) (door_new : DoorView I O) : Type 0 where
  pub ports : List P
  pub last : PortView
  pub twins : AreTwins old (map port ports) last
  pub new_is : new ≡ behind_twins how last
  pub accepts : Accepts reads writes of makes port ports door_old jobs left door_new
  pub end : IsEnded count how (length jobs) door_old door_new

-- Connections were accepted, and each was served to its end; these are the records of them, in the door's order. The acceptor's
-- port has met the ports of all sessions, and then those for which no connection came.
pub record ServesLinks {S I O P H : Type 0} (reads : I → Input) (writes : O → Output)
    (of : S → Link I O P) (makes : S → Type 0) (port : P → PortView)
    (gives : LinkJob S I O P → LinkDone I O P H → Type 0) (count : ℕ) (how : Ending)
    (ends : List (LinkEnd I O H)) (old : PortView) (door_old : DoorView I O) (new : PortView)
    (door_new : DoorView I O) : Type 0 where
  pub jobs : List (LinkJob S I O P)
  pub dones : List (LinkDone I O P H)
  pub left : List P
  pub begun : PortView
  pub begins : Begins reads writes of makes port count how old door_old jobs left begun door_new
  pub came : CameOf gives jobs dones
  pub ends_are : ends ≡ map (λ done. done.end) dones
  pub met : MeetEach begun (map (λ done. port done.port) dones ++ map port left) new
