-- What follows of every connection, whichever calls feeders serve: what it answers is of one history, which has its accepted Sets,
-- each once, in order.
use Rattle.std.specs.Prelude.{◌≡◌, ◌⊎◌, ℕ, ◌+◌, List, [], ◌∷◌, ◌++◌, length, map, IsTrue, true, Some, None, Ok, Err}
use Rattle.std.specs.List.{AllByRecursion}
use Rattle.base_kinds.specs.declared.entry.Entry.{Entry}
use Rattle.base_kinds.specs.declared.refusal.Refusal.TheVariants.{DiskFault, NoMemory}
use Rattle.base_kinds.specs.declared.request.ListMode.TheVariants.{Once}
use Rattle.base_kinds.specs.Schema.{SchemaNode}
use Rattle.gnmi_kinds.specs.declared.reply.SubReply.{SubReply}
use Rattle.sub_plan.specs.declared.plan.Plan.{Plan}
use Rattle.stream_laws.specs.Runs.{IsStreamRun}
use Rattle.stream_laws.specs.Follows.{first_moment}
use Rattle.subscribe_calls.specs.Calls.{replies_octets}
use Rattle.request_desk.specs.Subscribes.{subscribe_step}
use Rattle.request_desk.specs.declared.subscribe_steps.SubscribeStep.TheVariants.{Begin}
use Rattle.grpc_requests.specs.declared.request.Asked.TheVariants.{Subscribe}
use Rattle.book_port.specs.Chronicles.{entries_by}
use Rattle.book_port.specs.Follows.{Turn, Follows, FollowsAlone, made_by}
use Rattle.book_port.specs.Opened.{Opened, IsRun}
use Rattle.book_port.specs.Ports.{TakesTurns}
use Rattle.h2_events.specs.Items.{said_on, written}
use Rattle.h2_send.specs.Messages.{octets_said, data_on}
use Rattle.h2_send.specs.Orders.{order_of}
use Rattle.h2_send.specs.StreamFrames.{IsAnswer, frames_on}
use Rattle.session_core.specs.declared.how.How.{How}
use Rattle.session_core.specs.Deeds.{Deed, Answering, told, told_all, turns_in, faults_in}
use Rattle.session_core.specs.Runs.{Outside, RunBeside}
use Rattle.session_core.specs.Serving.{deeds_in}

-- something that holds of the turns of every run, with feeders on whichever streams
abbrev pub OfEachRun : (Outside → Outside → List Turn → Type 0) → Type 0
OfEachRun P = (fed : List ℕ) (schema : List SchemaNode) (old new : Outside) (how : How)
    → (run : RunBeside fed schema old how new) → P old new (turns_in (deeds_in run.served))

-- the turns that its deeds took are those of its port
abbrev pub TurnsAreTaken : Type 0
TurnsAreTaken = OfEachRun (λ old new turns. TakesTurns old.port turns new.port)

-- Each turn finds what the one before it left, with others' entries behind it, and so does the last history: no answer is at an
-- older state than the one before it.
abbrev pub TurnsFollow : Type 0
TurnsFollow = OfEachRun (λ old new turns. Follows old.port.author old.port.seen turns new.port.seen)

-- where nobody else has a port of the book, nothing stands between two turns
abbrev pub TurnsFollowAlone : Type 0
TurnsFollowAlone = OfEachRun (λ old new turns. IsTrue old.port.is_alone
    → FollowsAlone old.port.seen turns new.port.seen)

-- each turn is at a history that the rules of the target allow, and leaves one
abbrev pub IsAllowed : Opened → Turn → Type 0
IsAllowed opened turn = IsRun opened turn.found × IsRun opened turn.left

abbrev pub HistoriesAreAllowed : Type 0
HistoriesAreAllowed = OfEachRun (λ old new turns. AllByRecursion (IsAllowed old.port.opened) turns)

-- past the history that was seen first the last one has of the session's author just the entries that its turns added, each
-- once, in their order
abbrev pub OwnEntriesStand : Type 0
OwnEntriesStand = OfEachRun (λ old new turns.
    entries_by old.port.author new.port.seen
    ≡ entries_by old.port.author old.port.seen ++ made_by old.port.author turns)

-- and so has the history that a later turn finds: all that the session's earlier turns added
abbrev pub EarlierEntriesStand : Type 0
EarlierEntriesStand = OfEachRun (λ old new turns. (before after : List Turn) (turn : Turn)
    → turns ≡ before ++ turn ∷ after
    → entries_by old.port.author turn.found
    ≡ entries_by old.port.author old.port.seen ++ made_by old.port.author before)

-- the port keeps which histories were found, and counts the turns that a fault of the disk ended
abbrev pub FindsAreKept : Type 0
FindsAreKept = OfEachRun (λ old new turns.
    new.port.finds ≡ old.port.finds ++ map (λ turn. turn.found) turns)

abbrev pub FaultsAreMarked : Type 0
FaultsAreMarked = (fed : List ℕ) (schema : List SchemaNode) (old new : Outside) (how : How)
    → (run : RunBeside fed schema old how new)
    → new.port.marks ≡ old.port.marks + faults_in (deeds_in run.served)

-- The HEADERS and DATA on each stream answer what was said on it, and what they have of its messages is a front of their octets.
abbrev pub StreamsAreAnswered : Type 0
StreamsAreAnswered = (fed : List ℕ) (schema : List SchemaNode) (old new : Outside) (how : How)
    → (run : RunBeside fed schema old how new) (stream : ℕ)
    → IsAnswer stream (said_on stream (order_of run.inputs))
    (frames_on stream (written (order_of run.inputs)))

abbrev pub DataAreAFront : Type 0
DataAreAFront = (fed : List ℕ) (schema : List SchemaNode) (old new : Outside) (how : How)
    → (run : RunBeside fed schema old how new) (stream : ℕ)
    → (end : List ℕ) × (octets_said (said_on stream (order_of run.inputs))
    ≡ data_on stream (written (order_of run.inputs)) ++ end)

-- ---- Subscribe calls of mode ONCE (gNMI 3.5.1.5.1)

-- the deed is the answer to a call of mode ONCE with this plan
pub record AsksOnce (plan : Plan) (deed : Deed) : Type 0 where
  pub body : List ℕ
  pub asked : deed.doing ≡ Answering (Subscribe body)
  pub begins : subscribe_step None body ≡ Ok (Begin plan)
  pub once : plan.mode ≡ Once

-- What it says are the messages of a run of the plan's stream over this history with one turn, which is made where the deed's
-- turn left the history, and the end of the call.
pub record SaysState (schema : List SchemaNode) (plan : Plan) (h : List Entry) (deed : Deed)
    : Type 0 where
  pub turn : Turn
  pub taken : deed.turn ≡ Some turn
  pub messages : List SubReply
  pub run : IsStreamRun plan (first_moment turn.reading (length turn.left)) [] messages h
  pub told : deed.said ≡ told_all (replies_octets schema plan messages) true

-- that, or the call is refused for a fault of the disk, or for want of memory
abbrev pub SaysStateOrEnds : List SchemaNode → Plan → List Entry → Deed → Type 0
SaysStateOrEnds schema plan h deed =
    SaysState schema plan h deed
    ⊎ (deed.said ≡ told (Err DiskFault)) ⊎ (deed.said ≡ told (Err NoMemory))

-- so it is for each of them, over the history that was seen last
abbrev pub OnceCallsSayStates : Type 0
OnceCallsSayStates = (fed : List ℕ) (schema : List SchemaNode) (old new : Outside) (how : How)
    → (run : RunBeside fed schema old how new)
    → AllByRecursion (λ deed. (plan : Plan) → AsksOnce plan deed
    → SaysStateOrEnds schema plan new.port.seen deed) (deeds_in run.served)
