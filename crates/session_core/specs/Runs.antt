-- A whole connection: what was read, asked, answered, said and written, from its preface to its end.
use Rattle.std.specs.Prelude.{◌≡◌, ◌⊎◌, ℕ, List, [], ◌∷◌, true}
use Rattle.std.specs.List.{AllByRecursion}
use Rattle.environment.specs.Input.{Input as Source}
use Rattle.environment.specs.Output.{Output}
use Rattle.base_kinds.specs.Schema.{SchemaNode}
use Rattle.h2_streams.specs.Calls.{Moment, reads_of}
use Rattle.h2_send.specs.Accepting.{AreAccepted}
use Rattle.h2_send.specs.Inputs.{Input}
use Rattle.h2_send.specs.Lines.{first_line}
use Rattle.grpc_requests.specs.declared.request.Request.{Request}
use Rattle.book_port.specs.Ports.{PortView}
use Rattle.session_core.specs.declared.how.How.{How}
use Rattle.session_core.specs.declared.how.How.TheVariants as hows
use Rattle.session_core.specs.declared.served.Served.{Served}
use Rattle.session_core.specs.declared.waiting.Waiting.{Waiting}
use Rattle.stream_workers.specs.Feeders.{is_fed}
use Rattle.session_core.specs.Deeds.{Deed, handed_in}
use Rattle.session_core.specs.Reading.{IsGiven, IsMadeOf, IsReadPartly, IsReadToFault}
use Rattle.session_core.specs.Rounds.{HadTurns}
use Rattle.session_core.specs.Saying.{AreBehind}
use Rattle.session_core.specs.Serving.{Start, Standing, IsServed, deeds_in, standing_of, without_fed}
use Rattle.session_core.specs.Writing.{IsWritten}

-- what is seen of what a session is handed: its source, its sink, its port of a book, and the readings that its clock gave
pub record Outside : Type 0 where
  pub input : Source
  pub output : Output
  pub port : PortView
  pub readings : List ℕ

abbrev pub outside_of : Source → Output → PortView → List ℕ → Outside
outside_of input output port readings =
    record { input = input; output = output; port = port; readings = readings }

abbrev pub start_of : List SchemaNode → Outside → Start
start_of schema outside =
    record { schema = schema; port = outside.port; readings = outside.readings }

-- Every request is answered, what waits, waits for the peer, and each call that is served has had its turns: it needn't be so where
-- the output failed or memory ran out.
pub record IsAtRest (owed : List Request) (inputs : List Input) (waiting : List Waiting)
    (standing : Standing) : Type 0 where
  pub none_owed : owed ≡ []
  pub behind : AreBehind inputs waiting
  pub turned : AllByRecursion (HadTurns standing.round inputs) standing.calls

abbrev pub IsSettled : How → List Request → List Input → List Waiting → Standing → Type 0
IsSettled hows.WriteFault owed inputs waiting standing = Unit {0}
IsSettled hows.NoMemory owed inputs waiting standing = Unit {0}
IsSettled _ owed inputs waiting standing = IsAtRest owed inputs waiting standing

-- a fault of the output, or want of memory
abbrev pub IsOfOutput : How → Type 0
IsOfOutput hows.WriteFault = Unit {0}
IsOfOutput hows.NoMemory = Unit {0}
IsOfOutput _ = ⊥

-- What the source gave, as `IsGiven` says; and behind a read that failed it may be told that a feeder closed the sending half.
abbrev pub IsGivenBeside : List ℕ → How → List ℕ → Source → Source → Type 0
IsGivenBeside [] how octets old new = IsGiven how octets old new
IsGivenBeside (stream ∷ fed) how octets old new =
    IsGiven how octets old new ⊎ (IsOfOutput how × IsReadToFault octets old new)

-- A session that was handed objects like `old`, ended like this, and left them like `new`, with feeders on these streams. The desk
-- answers by this schema.
pub record RunBeside (fed : List ℕ) (schema : List SchemaNode) (old : Outside) (how : How)
    (new : Outside) : Type 0 where
  -- the octets that the peer sent, the frames that they are with this side's ends of streams between them, and what the
  -- sending half was given for them
  pub octets : List ℕ
  pub moments : List Moment
  pub inputs : List Input
  -- what was not said, and not answered
  pub waiting : List Waiting
  pub owed : List Request
  -- the calls that were served at the end, and what was done since the last frame
  pub calls : List Served
  pub round : List Deed
  -- RFC 9113 sections 3.4 and 6: what was read
  pub given : IsGivenBeside fed how octets old.input new.input
  pub partly : IsReadPartly octets moments
  pub made : IsMadeOf how octets moments inputs
  -- each input could be given where it came: no window overflows, and what is said finds its stream open, and free
  pub accepted : AreAccepted first_line inputs
  -- gRPC and gNMI: what was asked, answered at the port of the book, and said on each stream
  pub served : IsServed fed (start_of schema old) (record {
    moments = moments;
    inputs = inputs;
    waiting = waiting;
    owed = owed;
    standing = standing_of new.port calls new.readings round;
  })
  pub settled : IsSettled how owed inputs waiting (standing_of new.port calls new.readings round)
  -- RFC 9113 sections 5.2, 5.4 and 6: what was written
  pub written : IsWritten how octets moments inputs old.output new.output
  -- the reader isn't told that a feeder has ended its call
  pub untold : without_fed fed (reads_of moments) ≡ reads_of moments
  -- each call that was handed over has a feeder
  pub handed : AllByRecursion (λ stream. is_fed fed stream ≡ true) (handed_in (deeds_in served))

-- so, of a session that serves all calls itself
abbrev pub SessionRun : List SchemaNode → Outside → How → Outside → Type 0
SessionRun schema old how new = RunBeside [] schema old how new
