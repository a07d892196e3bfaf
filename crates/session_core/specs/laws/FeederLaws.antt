-- What holds of a port without what it knows of others, what feeders say takes nothing from, and
-- what holds of a session beside feeders.
use Rattle.std.specs.Prelude.{◌≡◌, ◌⊎◌, ℕ, ◌≤◌, List, [], ◌++◌, Result, Err, map, length}
use Rattle.std.specs.List.{AllByRecursion}
use Rattle.base_kinds.specs.declared.entry.Entry.{Entry}
use Rattle.base_kinds.specs.declared.refusal.Refusal.{Refusal}
use Rattle.base_kinds.specs.declared.refusal.Refusal.TheVariants.{NoMemory}
use Rattle.base_kinds.specs.Schema.{SchemaNode}
use Rattle.book_port.specs.Chronicles.{entries_by}
use Rattle.book_port.specs.Follows.{Turn, Follows, made_by}
use Rattle.book_port.specs.Ports.{PortView}
use Rattle.gnmi_kinds.specs.declared.reply.SubReply.{SubReply}
use Rattle.h2_events.specs.Items.{said_on}
use Rattle.h2_events.specs.declared.said.Said.{Said}
use Rattle.h2_events.specs.declared.said.Said.TheVariants.{Message}
use Rattle.h2_send.specs.Accepting.{AreAccepted}
use Rattle.h2_send.specs.Inputs.{Input}
use Rattle.h2_send.specs.Lines.{first_line}
use Rattle.h2_send.specs.Orders.{line_after, order_of}
use Rattle.request_desk.specs.Answers.{IsAnsweredBy}
use Rattle.request_desk.specs.Tasks.{Task}
use Rattle.grpc_requests.specs.declared.request.Request.{Request}
use Rattle.stream_worker.specs.Books.{AreRun, IsMadeIn}
use Rattle.stream_worker.specs.Feeds.{Feeds}
use Rattle.stream_laws.specs.Runs.{Moment}
use Rattle.sub_plan.specs.declared.plan.Plan.{Plan}
use Rattle.subscribe_calls.specs.Calls.{CallView, replies_octets}
use Rattle.subscribe_calls.specs.Turns.{TurnsOnce}
use Rattle.stream_workers.specs.Feeders.{Feeder}
use Rattle.stream_workers.specs.Ports.{own_port}
use Rattle.session_core.specs.declared.how.How.{How}
use Rattle.session_core.specs.declared.waiting.Waiting.{Waiting}
use Rattle.session_core.specs.Deeds.{Deed, told, turns_in}
use Rattle.session_core.specs.FeederRuns.{ServesCall, SessionRunBeside}
use Rattle.session_core.specs.Feeding.{AreFromFeeders, left_last}
use Rattle.session_core.specs.Runs.{IsAtRest, Outside}
use Rattle.session_core.specs.Serving.{Course, IsServed, Standing, Start, deeds_in}

-- ---- ports

-- what is answered at a port is answered at it without what it knows of other ports
abbrev pub AnswersAtOwnPort : Type 0
AnswersAtOwnPort = (task : Task) (old new : PortView) (now : ℕ) (result : Result (List ℕ) Refusal)
    → IsAnsweredBy task old now result new
    → IsAnsweredBy task (own_port old) now result (own_port new)

-- and so it is of a turn of a Subscribe call
abbrev pub TurnsAtOwnPort : Type 0
TurnsAtOwnPort = (schema : List SchemaNode) (now : ℕ) (call after : CallView) (old new : PortView)
    (result : Result (List (List ℕ)) Refusal)
    → TurnsOnce schema now call old result after new
    → TurnsOnce schema now call (own_port old) result after (own_port new)

-- ---- what feeders say meanwhile

-- what was served so far is served as before,
abbrev pub OthersServe : Type 0
OthersServe = (fed : List ℕ) (start : Start) (course : Course) (theirs : List Input)
    → AreFromFeeders fed theirs → IsServed fed start course
    → IsServed fed start (record course { inputs = course.inputs ++ theirs })

-- and where a session is at rest it rests.
abbrev pub OthersRest : Type 0
OthersRest = (fed : List ℕ) (owed : List Request) (given : List Input) (waiting : List Waiting)
    (standing : Standing) (theirs : List Input) → AreFromFeeders fed theirs
    → AreAccepted (line_after first_line given) theirs → IsAtRest owed given waiting standing
    → IsAtRest owed (given ++ theirs) waiting standing

-- ---- what the streams of feeders are told

-- The messages of what a feeder did are a run of its plan's stream over this history, with turns
-- that were made in it.
pub record IsRunOver (schema : List SchemaNode) (h : List Entry) (feeder : Feeder)
    (feeds : Feeds schema feeder.stream feeder.plan feeder.end feeder.from feeder.to)
    : Type 0 where
  pub run : AreRun feeder.plan feeds.looks.moments feeds.messages h
  pub made_in : AllByRecursion (IsMadeIn h) feeds.looks.told

-- So it is of each feeder, over the history that the returned port has seen.
abbrev pub FeedersSayRuns : Type 0
FeedersSayRuns = (schema : List SchemaNode) (old new : Outside) (how : How)
    → (run : SessionRunBeside schema old how new)
    → AllByRecursion (λ (feeder : Feeder).
    (feeds : Feeds schema feeder.stream feeder.plan feeder.end feeder.from feeder.to)
    → IsRunOver schema new.port.seen feeder feeds) run.feeders

-- What is said are the first messages of a run of the plan's stream over this history, in order,
-- and perhaps, behind them, that memory was wanting.
pub record SaysFront (schema : List SchemaNode) (plan : Plan) (h : List Entry) (said : List Said)
    : Type 0 where
  pub moments : List Moment
  pub messages : List SubReply
  pub run : AreRun plan moments messages h
  pub first : List SubReply
  pub rest : List SubReply
  pub whole : messages ≡ first ++ rest
  pub end : List Said
  pub ends : (end ≡ []) ⊎ (end ≡ told (Err NoMemory))
  pub said_is : said ≡ map Message (replies_octets schema plan first) ++ end

-- So it is of what is said on the stream of each feeder's call up to the end of the connection.
abbrev pub FedStreamsSayRuns : Type 0
FedStreamsSayRuns = (schema : List SchemaNode) (old new : Outside) (how : How)
    → (run : SessionRunBeside schema old how new)
    → AllByRecursion (λ (feeder : Feeder). SaysFront schema feeder.plan new.port.seen
    (said_on feeder.stream (order_of run.run.inputs))) run.feeders

-- ---- the history of a session beside feeders

-- Each turn of the session finds what its turn before left, with others' entries behind it, and so
-- does the history that the returned port has seen, behind the meetings with the feeders' ports.
abbrev pub TurnsFollowBeside : Type 0
TurnsFollowBeside = (schema : List SchemaNode) (old new : Outside) (how : How)
    → (run : SessionRunBeside schema old how new)
    → Follows old.port.author old.port.seen (turns_in (deeds_in run.run.served)) new.port.seen

-- Past the history that was seen first that one has of the session's author just the entries that
-- the session's own turns added, each once, in their order: feeders add none.
abbrev pub OwnEntriesStandBeside : Type 0
OwnEntriesStandBeside = (schema : List SchemaNode) (old new : Outside) (how : How)
    → (run : SessionRunBeside schema old how new)
    → entries_by old.port.author new.port.seen ≡ entries_by old.port.author old.port.seen
    ++ made_by old.port.author (turns_in (deeds_in run.run.served))

-- ---- where feeders begin

-- the turn finds a history that begins with this one
pub record BeginsWith (seen : List Entry) (turn : Turn) : Type 0 where
  pub more : List Entry
  pub whole : turn.found ≡ seen ++ more

-- Each turn of a feeder finds a history that begins with the one that the session's turns had left
-- before its call was handed over.
abbrev pub FeedersBeginAtTheSession : Type 0
FeedersBeginAtTheSession = (schema : List SchemaNode) (port : PortView) (deeds : List Deed)
    (given : List Input) (feeder : Feeder)
    → (serves : ServesCall schema port deeds given feeder)
    → AllByRecursion (BeginsWith (left_last port.seen (turns_in serves.before))) serves.feeds.turns

-- So nothing that it says is of an older state: each turn of its messages' run is at the position
-- of that history or behind it.
abbrev pub FeedersSayNothingOlder : Type 0
FeedersSayNothingOlder = (schema : List SchemaNode) (port : PortView) (deeds : List Deed)
    (given : List Input) (feeder : Feeder)
    → (serves : ServesCall schema port deeds given feeder)
    → AllByRecursion (λ moment.
    length (left_last port.seen (turns_in serves.before)) ≤ moment.position)
    serves.feeds.looks.moments

-- So it is of what is said on the stream of each feeder's call: its run begins at that position or behind it.
abbrev pub FedStreamsSayNothingOlder : Type 0
FedStreamsSayNothingOlder = (schema : List SchemaNode) (old new : Outside) (how : How)
    → (run : SessionRunBeside schema old how new)
    → AllByRecursion (λ (feeder : Feeder).
    (serves : ServesCall schema old.port (deeds_in run.run.served) run.given feeder)
    × (says : SaysFront schema feeder.plan new.port.seen
    (said_on feeder.stream (order_of run.run.inputs)))
    × AllByRecursion (λ moment.
    length (left_last old.port.seen (turns_in serves.before)) ≤ moment.position) says.moments)
    run.feeders

-- What the turn finds has of this author these entries first, and then others.
pub record HasEarlier (author : ℕ) (entries : List Entry) (turn : Turn) : Type 0 where
  pub later : List Entry
  pub whole : entries_by author turn.found ≡ entries ++ later

-- So it is of the entries that the session's turns had added before: each once, in their order, and
-- any later one behind them.
abbrev pub FeedersFindEarlierEntries : Type 0
FeedersFindEarlierEntries = (schema : List SchemaNode) (old new : Outside) (how : How)
    → (run : SessionRunBeside schema old how new) (feeder : Feeder)
    → (serves : ServesCall schema old.port (deeds_in run.run.served) run.given feeder)
    → AllByRecursion (HasEarlier old.port.author (entries_by old.port.author old.port.seen
    ++ made_by old.port.author (turns_in serves.before))) serves.feeds.turns
