-- What a session has done so far: what was asked, what the book did, and what was said.
use Rattle.std.specs.Prelude.{◌≡◌, ℕ, List, [], ◌∷◌, ◌++◌, false, if◌then◌else◌}
use Rattle.std.specs.List.{AllByRecursion}
use Rattle.base_kinds.specs.Schema.{SchemaNode}
use Rattle.h2_events.specs.Items.{Read, Event, Ended, as_read, heard}
use Rattle.h2_streams.specs.Calls.{Moment, events_of, reads_of}
use Rattle.h2_send.specs.Accepting.{IsOpenedOnce}
use Rattle.h2_send.specs.Inputs.{Input}
use Rattle.h2_send.specs.Orders.{order_of}
use Rattle.grpc_requests.specs.declared.request.Request.{Request}
use Rattle.grpc_requests.specs.Requests.{requests}
use Rattle.stream_workers.specs.Feeders.{is_fed}
use Rattle.book_port.specs.Ports.{PortView}
use Rattle.session_core.specs.declared.served.Served.{Served}
use Rattle.session_core.specs.declared.waiting.Waiting.{Waiting}
use Rattle.session_core.specs.Deeds.{Deed, Service, AreDone, requests_in, readings_in}
use Rattle.session_core.specs.Rounds.{Round, AreTimely, AreWhole, IsOfOneFrame, IsRecent, deeds_of, inputs_of}
use Rattle.session_core.specs.Saying.{IsSaid}

-- what a session begins with: the schema that its desk answers by, its port, and the readings that its clock gave before
pub record Start : Type 0 where
  pub schema : List SchemaNode
  pub port : PortView
  pub readings : List ℕ

-- Where a session stands: its port, the calls that it serves, the readings that its clock gave, and what it has done since the last
-- frame.
pub record Standing : Type 0 where
  pub port : PortView
  pub calls : List Served
  pub readings : List ℕ
  pub round : List Deed

pub record Course : Type 0 where
  -- the frames that were read, with this side's ends of streams between them
  pub moments : List Moment
  -- what the sending half was given
  pub inputs : List Input
  -- what waits to be said
  pub waiting : List Waiting
  -- the requests that are whole and not answered
  pub owed : List Request
  pub standing : Standing

abbrev pub standing_of : PortView → List Served → List ℕ → List Deed → Standing
standing_of port calls readings round =
    record { port = port; calls = calls; readings = readings; round = round }

abbrev pub first_service : Start → Service
first_service start = record { port = start.port; calls = [] }

abbrev pub service_of : Standing → Service
service_of standing = record { port = standing.port; calls = standing.calls }

-- The order as who reads has it: that a feeder has ended its call isn't told there.
abbrev pub without_fed : List ℕ → List Read → List Read
without_fed fed [] = []
without_fed fed (Event event ∷ reads) = Event event ∷ without_fed fed reads
without_fed fed (Ended stream ∷ reads) =
    if is_fed fed stream then without_fed fed reads else Ended stream ∷ without_fed fed reads

-- The requests of the events were answered in their order, each once, but for those that are owed. What a frame causes stands
-- before the next frame (`whole`), and turns come behind the answers (`timely`). The peer opens a stream once at most. The wire's
-- order and the reader's are one, but for the ends of the calls that feeders serve; what is said on the streams of these isn't the
-- session's.
pub record IsServed (fed : List ℕ) (start : Start) (course : Course) : Type 0 where
  -- the rounds that are over, and what the sending half was given in the one that goes on
  pub rounds : List Round
  pub last : List Input
  pub given : course.inputs ≡ inputs_of rounds ++ last
  pub frame : IsOfOneFrame rounds last
  pub whole : AreWhole fed start.schema (first_service start) [] rounds
  pub recent : AllByRecursion (IsRecent course.inputs) course.standing.round
  pub asked : requests_in (deeds_of rounds ++ course.standing.round) ++ course.owed
      ≡ requests (events_of course.moments)
  pub done : AreDone start.schema (first_service start) (deeds_of rounds ++ course.standing.round)
      (service_of course.standing)
  pub timely : AreTimely fed [] (deeds_of rounds ++ course.standing.round)
  pub clock : course.standing.readings
      ≡ start.readings ++ readings_in (deeds_of rounds ++ course.standing.round)
  pub said : (stream : ℕ) → is_fed fed stream ≡ false
      → IsSaid stream course.waiting (order_of course.inputs)
      (deeds_of rounds ++ course.standing.round)
  pub opened : (stream : ℕ) → IsOpenedOnce stream (heard (order_of course.inputs))
  pub one_order : without_fed fed (as_read (order_of course.inputs))
      ≡ without_fed fed (reads_of course.moments)

-- all that was done
abbrev pub deeds_in : {fed : List ℕ} {start : Start} {course : Course} → IsServed fed start course
    → List Deed
deeds_in {fed} {start} {course} served = deeds_of served.rounds ++ course.standing.round
