-- What holds of a history behind the one that is seen when all sessions have ended.
use Rattle.std.specs.Prelude.{◌≡◌, ℕ, List, ◌++◌}
use Rattle.std.specs.List.{AllByRecursion}
use Rattle.base_kinds.specs.declared.entry.Entry.{Entry}
use Rattle.environment.specs.Input.{Input}
use Rattle.environment.specs.Output.{Output}
use Rattle.listening.specs.Doors.{DoorView}
use Rattle.book_port.specs.Ports.{PortView}
use Rattle.session_core.specs.declared.how.How.{How}
use Rattle.session_core.specs.Deeds.{turns_in}
use Rattle.session_core.specs.Serving.{deeds_in}
use Rattle.connection_server.specs.declared.accepting.Ending.{Ending}
use Rattle.connection_server.specs.declared.link.LinkEnd.{LinkEnd}
use Rattle.connection_server.specs.laws.SessionLaws.{StandIn}
use Rattle.gnmi_server.specs.Histories.{GoesOnFrom}
use Rattle.gnmi_server.specs.Serving.{Served, ServesBook}
use Rattle.gnmi_server.specs.Sessions.{ServesLink}

-- that history stands first in this one
abbrev pub HasFront : List Entry → List Entry → Type 0
HasFront h front = (more : List Entry) × (h ≡ front ++ more)

module _ {I O : Type 0} (reads : I → Input) (writes : O → Output) where
  -- What a session and its feeders did stands in the history.
  pub record StandsIn (h : List Entry) (one : Served I O)
      (run : ServesLink reads writes one.link one.left) : Type 0 where
    -- its turns, with others' entries between them; and past what it saw first its author's entries are those that they made,
    -- each once, in their order
    pub own : StandIn h one.link.port (turns_in (deeds_in run.run.run.served))
    -- it goes on from what each feeder has seen
    pub fed : AllByRecursion (λ feeder. HasFront h feeder.to.book.seen) run.run.feeders

  abbrev pub Stands : List Entry → Served I O → Type 0
  Stands h one = (run : ServesLink reads writes one.link one.left) → StandsIn h one run

  -- so it is of every session that served a connection
  abbrev pub SessionsStand : Type 0
  SessionsStand = (count : ℕ) (how : Ending) (ends : List (LinkEnd I O How))
      (old : PortView) (door_old : DoorView I O) (new : PortView) (door_new : DoorView I O)
      (is : ServesBook reads writes count how ends old door_old new door_new) (h : List Entry)
      → GoesOnFrom new h → AllByRecursion (Stands h) is.served
