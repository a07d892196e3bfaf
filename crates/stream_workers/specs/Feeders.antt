-- The feeders of a connection: those that run, and what they have done once they have ended.
use Rattle.std.specs.Prelude.{◌≡◌, ℕ, ◌==◌, Bool, true, false, List, [], ◌∷◌, ◌++◌, map, Option, Some, None}
use Rattle.std.specs.List.{AllByRecursion, list_any}
use Rattle.base_kinds.specs.Schema.{SchemaNode}
use Rattle.book_port.specs.Ports.{PortView, IsTwin, Meets}
use Rattle.h2_events.specs.Items.{said_by}
use Rattle.h2_events.specs.declared.said.Piece.TheVariants as piece
use Rattle.h2_events.specs.declared.said.Said.{Said}
use Rattle.h2_send.specs.Inputs.{Input, Event, Speech}
use Rattle.shared_wire.specs.Records.{AreRecords, left_in}
use Rattle.shared_wire.specs.Visits.{VisitView, IsTwin as IsWireTwin, Meets as MeetsVisit, OthersWentOn, authors_of, end_of, given_in}
use Rattle.stream_worker.specs.Feeds.{Feeds, Ports, last_pieces}
use Rattle.stream_worker.specs.Wires.{WireView}
use Rattle.stream_worker.specs.declared.job.FeedEnd.{FeedEnd}
use Rattle.stream_worker.specs.declared.job.FeedJob.{FeedJob}
use Rattle.sub_plan.specs.declared.plan.Plan.{Plan}

-- ---- feeders that run

-- A feeder that was started: the stream and the plan of its call, and its ports as they were then.
pub record Started : Type 0 where
  pub stream : ℕ
  pub plan : Plan
  pub book : PortView
  pub wire : VisitView

-- the schema under which they serve, and those that were started, in order
pub record FeedersView : Type 0 where
  pub schema : List SchemaNode
  pub started : List Started

abbrev pub started_of : {P C Q R : Type 0} → (P → PortView) → FeedJob P VisitView C Q R → Started
started_of port job =
    record { stream = job.stream; plan = job.plan; book = port job.book; wire = job.wire }

-- these jobs serve under this schema
abbrev pub AreUnder : {P W C Q R : Type 0} → List SchemaNode → List (FeedJob P W C Q R) → Type 0
AreUnder schema jobs = AllByRecursion (λ job. job.schema ≡ schema) jobs

-- It has ports of the book with this name, which others have ports of too, and of the wire with this one, where it has done nothing
-- yet.
pub record IsOf (book wire : List ℕ) (started : Started) : Type 0 where
  pub book_is : started.book.book ≡ book
  pub shared : started.book.is_alone ≡ false
  pub wire_is : started.wire.lock ≡ wire
  pub none_made : started.wire.made ≡ []
  pub none_met : started.wire.met ≡ []

abbrev pub AreOf : List ℕ → List ℕ → List Started → Type 0
AreOf book wire started = AllByRecursion (IsOf book wire) started

-- A feeder more was started, for the call with this plan on this stream, over twins of both ports.
pub record IsStarted (stream : ℕ) (plan : Plan) (old new : FeedersView)
    (old_book new_book : PortView) (old_wire new_wire : VisitView) : Type 0 where
  pub book : PortView
  pub book_twin : IsTwin old_book new_book book
  pub wire : VisitView
  pub wire_twin : IsWireTwin old_wire new_wire wire
  pub new_is : new ≡ record old {
    started = old.started
        ++ record { stream = stream; plan = plan; book = book; wire = wire } ∷ [];
  }

-- ---- feeders that have ended

-- a feeder: the stream and the plan of its call, how it ended, and its ports at its start and its end
pub record Feeder : Type 0 where
  pub stream : ℕ
  pub plan : Plan
  pub end : FeedEnd
  pub from : Ports
  pub to : Ports

abbrev pub streams_of : List Feeder → List ℕ
streams_of feeders = map (λ feeder. feeder.stream) feeders

-- a feeder serves the call on the stream
abbrev pub is_fed : List ℕ → ℕ → Bool
is_fed fed stream = list_any (λ other. other == stream) fed

-- What was done at the wire is that something was said on the stream of a feeder.
abbrev pub IsOfFeeder : List ℕ → Option Input → Type 0
IsOfFeeder fed None = ⊥
IsOfFeeder fed (Some (Event event)) = ⊥
IsOfFeeder fed (Some (Speech stream said)) = is_fed fed stream ≡ true

-- what a feeder sees of a port of the wire, and of both
abbrev pub wire_of : VisitView → WireView
wire_of visit = record {
  connection = visit.lock;
  authors = authors_of visit;
  counts = visit.counts;
  progress = left_in visit.seen;
  owns = λ stream. false;
  given = given_in visit.made;
}

abbrev pub ports_at : PortView → VisitView → Ports
ports_at book wire = record { book = book; wire = wire_of wire }

-- all that a feeder said, and behind it what was accepted to be said when the wire was closed by that
abbrev pub words_of : {schema : List SchemaNode} {stream : ℕ} {plan : Plan} {end : FeedEnd}
    {from to : Ports} → Feeds schema stream plan end from to → List Said
words_of {schema} {stream} {plan} {end} feeds =
    map said_by (map piece.Message feeds.taken ++ last_pieces end) ++ feeds.lost

-- A feeder that was started so has ended, and its port of the wire has then taken one turn more, in which it made no record: now
-- it is this one. The feeder has said there what it said, on its stream, and nothing else was done through its port.
pub record HasEnded (schema : List SchemaNode) (started : Started) (feeder : Feeder)
    (visit : VisitView) : Type 0 where
  pub stream : feeder.stream ≡ started.stream
  pub plan : feeder.plan ≡ started.plan
  pub from : feeder.from ≡ ports_at started.book started.wire
  pub feeds : Feeds schema feeder.stream feeder.plan feeder.end feeder.from feeder.to
  -- the port of the wire as it was at the feeder's end
  pub last : VisitView
  pub last_is : feeder.to.wire ≡ wire_of last
  -- What it had seen by then are records of the wire, from the first one. Its further turn found these again, and behind them
  -- records of others alone.
  pub records : AreRecords last.seen
  pub went_on : OthersWentOn visit.author last.seen visit.seen
  -- That turn changed nothing else of it.
  pub visit_is : visit ≡ record last { seen = visit.seen; finds = last.finds ++ visit.seen ∷ [] }
  pub author : visit.author ≡ started.wire.author
  pub none_met : visit.met ≡ []
  pub made : given_in visit.made
      ≡ map (λ word. Some (Speech feeder.stream word)) (words_of feeds)

-- each of these, in order
abbrev pub HaveEnded : List SchemaNode → List Started → List Feeder → List VisitView → Type 0
HaveEnded schema [] feeders visits = (feeders ≡ []) × (visits ≡ [])
HaveEnded schema (one ∷ started) [] visits = ⊥
HaveEnded schema (one ∷ started) (feeder ∷ feeders) [] = ⊥
HaveEnded schema (one ∷ started) (feeder ∷ feeders) (visit ∷ visits) =
    HasEnded schema one feeder visit × HaveEnded schema started feeders visits

-- their ports of the book are met, one after the other,
abbrev pub MeetsEach : PortView → List Feeder → PortView → Type 0
MeetsEach old [] new = new ≡ old
MeetsEach old (feeder ∷ feeders) new =
    (next : PortView) × Meets old feeder.to.book next × MeetsEach next feeders new

-- and those of the wire
abbrev pub MeetsVisits : VisitView → List VisitView → VisitView → Type 0
MeetsVisits old [] new = new ≡ old
MeetsVisits old (visit ∷ visits) new =
    (next : VisitView) × MeetsVisit old visit next × MeetsVisits next visits new

-- All have ended, and the session's ports have met theirs.
pub record AllEnd (schema : List SchemaNode) (started : List Started)
    (old_book : PortView) (old_wire : VisitView)
    (new_book : PortView) (new_wire : VisitView) : Type 0 where
  pub feeders : List Feeder
  pub visits : List VisitView
  pub ended : HaveEnded schema started feeders visits
  pub books : MeetsEach old_book feeders new_book
  pub wires : MeetsVisits old_wire visits new_wire
  pub met : new_wire.met ≡ old_wire.met ++ map end_of visits
