-- What a session keeps with feeders: which calls they serve, and that it says nothing on the streams of these.
use Rattle.std.specs.Prelude.{◌≡◌, ℕ, ◌==◌, List, [], ◌∷◌, ◌++◌, map, Bool, false, ◌||◌, Option, None, Ok}
use Rattle.std.specs.List.{AllByRecursion}
use Rattle.base_kinds.specs.declared.entry.Entry.{Entry}
use Rattle.base_kinds.specs.declared.request.ListMode.TheVariants as modes
use Rattle.book_port.specs.Opened.{Opened}
use Rattle.book_port.specs.Ports.{PortView}
use Rattle.h2_streams.specs.Calls.{Moment, ended, read}
use Rattle.h2_send.specs.Inputs.{Input}
use Rattle.h2_send.specs.Port.{Progress}
use Rattle.request_desk.specs.Subscribes.{subscribe_step}
use Rattle.request_desk.specs.declared.subscribe_steps.SubscribeStep.TheVariants.{Begin}
use Rattle.stream_workers.specs.Ports.{IsUnused}
use Rattle.shared_wire.specs.Records.{AreRecords}
use Rattle.shared_wire.specs.Visits.{VisitView, first_records}
use Rattle.stream_workers.specs.Feeders.{AreOf, FeedersView, IsOf, IsOfFeeder, Started}
use Rattle.sub_plan.specs.declared.plan.Plan.{Plan}
use Rattle.session_core.specs.declared.waiting.Waiting.{Waiting}
use Rattle.session_core.specs.Deeds.{Deed, Handing, handed_in, said_to, turns_in}
use Rattle.session_core.specs.Feeding.{left_last}
use Rattle.session_core.specs.FeederRuns.{IsNewPort}
use Rattle.session_core.specs.Saying.{waits_on}
use Rattle.session_core.specs.Serving.{Start, Course, IsServed, deeds_in}
use Rattle.session_core.specs.inner.Sending.{WireHistory, spoken}

-- which sending half it has, what it did there itself, and the feeders that were started
pub record FeederState : Type 0 where
  pub name : List ℕ
  pub own : List (Option Input)
  pub started : List Started

abbrev pub feeder_state : WireHistory → List Started → FeederState
feeder_state beside started =
    record { name = beside.name; own = beside.own; started = started }

-- the reader was told of an end of the stream
abbrev pub is_told : ℕ → List Moment → Bool
is_told stream [] = false
is_told stream (ended other ∷ moments) = (other == stream) || is_told stream moments
is_told stream (read frame event ∷ moments) = is_told stream moments

-- It has said nothing on a stream, nothing waits there, and the reader wasn't told of its end.
pub record IsSilent (stream : ℕ) (own : List (Option Input)) (waiting : List Waiting)
    (moments : List Moment) : Type 0 where
  pub unsaid : spoken stream own ≡ []
  pub none : waits_on stream waiting ≡ []
  pub untold : is_told stream moments ≡ false

-- what a port is of: a book that was opened so, with this name
abbrev pub book_of : PortView → Opened × List ℕ
book_of port = (port.opened, port.book)

-- a call with this first message was handed to it, at the history that a port of this book had seen
pub record IsStartedFor (name : List ℕ) (stream : ℕ) (body : List ℕ) (of : Opened × List ℕ)
    (seen : List Entry) (one : Started) : Type 0 where
  pub on : one.stream ≡ stream
  pub begins : subscribe_step None body ≡ Ok (Begin one.plan)
  pub streams : one.plan.mode ≡ modes.Stream
  pub new_port : IsNewPort of.0 of.1 seen one.book
  pub is_of : IsOf of.1 name one

-- by one of these deeds
pub record IsHandedBy (name : List ℕ) (port : PortView) (deeds : List Deed) (one : Started)
    : Type 0 where
  pub before : List Deed
  pub deed : Deed
  pub after : List Deed
  pub whole : deeds ≡ before ++ deed ∷ after
  pub body : List ℕ
  pub asked : deed.doing ≡ Handing body
  pub started : IsStartedFor name deed.stream body (book_of port)
      (left_last port.seen (turns_in before)) one

-- Where the deeds say nothing on a stream the session has said nothing, and the calls that were handed over are those of feeders.
pub record HasFeeders (port : PortView) (side : FeederState) (waiting : List Waiting)
    (moments : List Moment) (deeds : List Deed) : Type 0 where
  pub silent : (stream : ℕ) → said_to stream deeds ≡ []
      → IsSilent stream side.own waiting moments
  pub streams : handed_in deeds ≡ map (λ one. one.stream) side.started
  pub handed : AllByRecursion (IsHandedBy side.name port deeds) side.started

-- so much is served, and by feeders
pub record IsServedBeside (fed : List ℕ) (start : Start) (side : FeederState) (course : Course)
    : Type 0 where
  pub served : IsServed fed start course
  pub beside : HasFeeders start.port side course.waiting course.moments (deeds_in served)

-- A feeder more was started, for the call with this plan on the stream, over twins of a port of the book and of the sending half
-- with this name.
pub record Starts (name : List ℕ) (stream : ℕ) (plan : Plan) (port : PortView)
    (old new : List Started) : Type 0 where
  pub one : Started
  pub more : new ≡ old ++ one ∷ []
  pub on : one.stream ≡ stream
  pub plan_is : one.plan ≡ plan
  pub new_port : IsNewPort port.opened port.book port.seen one.book
  pub is_of : IsOf port.book name one

-- all that others did is what feeders said, each on its stream
abbrev pub AreOfFeeders : List ℕ → WireHistory → Type 0
AreOfFeeders fed beside = AllByRecursion (IsOfFeeder fed) beside.others

-- They serve under the schema of this port's book, over ports of that book and of the same sending half.
abbrev pub AreOfSession : PortView → WireHistory → FeedersView → Type 0
AreOfSession port beside feeders =
    (feeders.schema ≡ port.opened.schema) × AreOf port.book beside.name feeders.started

-- A session's own port of a wire: the first one that the wire had, which met unused ports at most.
pub record IsOwnVisit (visit : VisitView) : Type 0 where
  pub unused : AllByRecursion IsUnused visit.met
  pub records : AreRecords visit.seen
  pub at : Progress
  pub first : visit.start ≡ first_records at
  pub none : at.inputs ≡ []
