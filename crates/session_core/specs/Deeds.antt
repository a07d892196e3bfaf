-- What a session does, one deed after the other: it answers what is asked, hands a call of mode STREAM to a feeder, or takes a turn
-- of a Subscribe call that it serves.
use Rattle.std.specs.Prelude.{◌≡◌, ◌⊎◌, ℕ, zero, suc, ◌+◌, ◌==◌, nat_lt, List, [], ◌∷◌, ◌++◌, Bool, true, false, Option, Some, None, Result, Ok, Err, map, if◌then◌else◌}
use Rattle.std.specs.List.{AllByRecursion}
use Rattle.base_kinds.specs.declared.refusal.Refusal.{Refusal}
use Rattle.base_kinds.specs.declared.refusal.Refusal.TheVariants.{Unsupported, BadSubscribe, DiskFault, NoMemory}
use Rattle.base_kinds.specs.declared.request.ListMode.{ListMode}
use Rattle.base_kinds.specs.declared.request.ListMode.TheVariants as modes
use Rattle.base_kinds.specs.Schema.{SchemaNode}
use Rattle.book_port.specs.Follows.{Turn}
use Rattle.book_port.specs.Ports.{PortView}
use Rattle.grpc_core.specs.declared.method.Method.{Method}
use Rattle.h2_events.specs.declared.port.Ready.{Ready}
use Rattle.h2_events.specs.declared.port.Ready.TheVariants.{Free, Gone}
use Rattle.h2_events.specs.declared.said.Said.{Said}
use Rattle.h2_events.specs.declared.said.Said.TheVariants.{Message, Finish, Status}
use Rattle.h2_send.specs.Inputs.{Input}
use Rattle.h2_send.specs.Lines.{first_line}
use Rattle.h2_send.specs.Offers.{ready_on}
use Rattle.h2_send.specs.Orders.{line_after}
use Rattle.request_desk.specs.Answers.{IsAnsweredBy}
use Rattle.request_desk.specs.Services.{task_of}
use Rattle.request_desk.specs.Subscribes.{subscribe_step}
use Rattle.request_desk.specs.declared.subscribe_steps.SubscribeStep.{SubscribeStep}
use Rattle.request_desk.specs.declared.subscribe_steps.SubscribeStep.TheVariants.{Begin, Poll}
use Rattle.grpc_requests.specs.declared.request.Asked.{Asked}
use Rattle.grpc_requests.specs.declared.request.Asked.TheVariants as asks
use Rattle.grpc_requests.specs.declared.request.Later.{Later}
use Rattle.grpc_requests.specs.declared.request.Later.TheVariants as later
use Rattle.grpc_requests.specs.declared.request.Request.{Request}
use Rattle.sub_plan.specs.declared.plan.Plan.{Plan}
use Rattle.subscribe_calls.specs.Calls.{CallView, new_call}
use Rattle.subscribe_calls.specs.Turns.{TurnsOnce}
use Rattle.session_core.specs.declared.served.Served.{Served}

-- ---- the calls that are served

-- how many Polls of a call wait at most
abbrev pub most_polls : ℕ
most_polls = 16

abbrev pub new_served : ℕ → Plan → Served
new_served stream plan =
    record { stream = stream; call = new_call plan; polls = 0; ended = false }

-- none of the calls is on the stream
abbrev pub AreElsewhere : ℕ → List Served → Type 0
AreElsewhere stream calls =
    AllByRecursion (λ (served : Served). (served.stream == stream) ≡ false) calls

-- the calls that aren't on the stream
abbrev pub others_than : ℕ → List Served → List Served
others_than stream [] = []
others_than stream (served ∷ calls) =
    if served.stream == stream then others_than stream calls
    else served ∷ others_than stream calls

-- this call, which is on the stream, is one of the calls, and stands between the others
pub record IsAmong (stream : ℕ) (served : Served) (before after calls : List Served) : Type 0 where
  pub whole : calls ≡ before ++ served ∷ after
  pub on : served.stream ≡ stream

-- the port of the book, and the calls that are served, in the order in which they began
pub record Service : Type 0 where
  pub port : PortView
  pub calls : List Served

-- ---- deeds

-- Something that was asked is answered; a call that this first message begins is handed to a feeder; a call that is served takes a
-- turn; or such a call is served no more, since nothing can be said on its stream.
pub data Doing : Type 0 where
  Answering : Asked → Doing
  Handing : List ℕ → Doing
  Turning : Doing
  Dropping : Doing

-- What is done on a stream: what the sending half had been given by then, the readings of the clock and the turn of the book that
-- were taken, whether a fault of the disk ended that turn, and what is said.
pub record Deed : Type 0 where
  pub stream : ℕ
  pub doing : Doing
  pub given : List Input
  pub readings : List ℕ
  pub turn : Option Turn
  pub failed : Bool
  pub said : List Said

-- whether something can be said on the deed's stream then
abbrev pub ready_at : Deed → Ready
ready_at deed = ready_on deed.stream (line_after first_line deed.given).streams

-- a message and the end of the call, or the refusal that ends it (gRPC over HTTP/2, "Responses")
abbrev pub told : Result (List ℕ) Refusal → List Said
told (Ok message) = Message message ∷ Finish None ∷ []
told (Err refusal) = Finish (Some refusal) ∷ []

-- the messages, and the end of the call, if it ends with them
abbrev pub told_all : List (List ℕ) → Bool → List Said
told_all messages ends = map Message messages ++ (if ends then Finish None ∷ [] else [])

abbrev pub is_disk_fault : Refusal → Bool
is_disk_fault DiskFault = true
is_disk_fault refusal = false

abbrev pub has_failed : {A : Type 0} → Result A Refusal → Bool
has_failed (Ok value) = false
has_failed (Err refusal) = is_disk_fault refusal

-- It says this and takes no reading and no turn; the calls that are served are these then.
pub record IsPlain (said : List Said) (calls : List Served) (deed : Deed) (old new : Service)
    : Type 0 where
  pub says : deed.said ≡ said
  pub unread : deed.readings ≡ []
  pub unturned : deed.turn ≡ None
  pub unfailed : deed.failed ≡ false
  pub new_is : new ≡ record { port = old.port; calls = calls }

-- The message of a unary call is answered through the port, at one reading of the clock.
pub record IsReply (schema : List SchemaNode) (method : Method) (body : List ℕ) (deed : Deed)
    (old new : Service) : Type 0 where
  pub now : ℕ
  pub result : Result (List ℕ) Refusal
  pub answered : IsAnsweredBy (task_of schema method body) old.port now result new.port
  pub read : deed.readings ≡ now ∷ []
  pub turned : deed.turn ≡ answered.turn
  pub failed : deed.failed ≡ has_failed result
  pub says : deed.said ≡ told result
  pub calls_are : new.calls ≡ old.calls

-- ---- turns of Subscribe calls (gNMI 3.5.1.5)

-- A turn of a call at one reading of the clock, what it says, and which calls are served then.
pub record IsTurn (schema : List SchemaNode) (call after : CallView)
    (result : Result (List (List ℕ)) Refusal) (said : List Said) (calls : List Served)
    (deed : Deed) (old new : Service) : Type 0 where
  pub now : ℕ
  pub turns : TurnsOnce schema now call old.port result after new.port
  pub read : deed.readings ≡ now ∷ []
  pub turned : deed.turn ≡ Some turns.looks.turn
  pub failed : deed.failed ≡ has_failed result
  pub says : deed.said ≡ said
  pub calls_are : new.calls ≡ calls

-- A ONCE call has one turn, and ends with it or with its refusal.
abbrev pub said_once : Result (List (List ℕ)) Refusal → List Said
said_once (Ok messages) = told_all messages true
said_once (Err refusal) = Finish (Some refusal) ∷ []

pub record IsOnce (schema : List SchemaNode) (plan : Plan) (deed : Deed) (old new : Service)
    : Type 0 where
  pub result : Result (List (List ℕ)) Refusal
  pub after : CallView
  pub turn : IsTurn schema (new_call plan) after result (said_once result) old.calls deed old new

-- A turn of a STREAM call: the call goes on behind it, also where a fault of the disk ended the turn, which is tried again then.
-- Want of memory ends the call.
abbrev pub said_streaming : Result (List (List ℕ)) Refusal → List Said
said_streaming (Ok messages) = told_all messages false
said_streaming (Err DiskFault) = []
said_streaming (Err refusal) = Finish (Some refusal) ∷ []

abbrev pub kept_streaming : Result (List (List ℕ)) Refusal → Served → CallView → List Served
kept_streaming (Ok messages) served after = record served { call = after } ∷ []
kept_streaming (Err DiskFault) served after = record served { call = after } ∷ []
kept_streaming (Err refusal) served after = []

pub record IsStreamTurn (schema : List SchemaNode) (served : Served) (others later : List Served)
    (deed : Deed) (old new : Service) : Type 0 where
  pub result : Result (List (List ℕ)) Refusal
  pub after : CallView
  pub turn : IsTurn schema served.call after result (said_streaming result)
      (others ++ kept_streaming result served after ++ later) deed old new

-- A turn for a Poll is a first turn, which leaves the call as it is, with one Poll less that waits. With the last of them ends a
-- call that the peer has ended; a refusal ends any.
abbrev pub is_last_poll : Served → ℕ → Bool
is_last_poll served zero = served.ended
is_last_poll served (suc left) = false

abbrev pub said_polled : Result (List (List ℕ)) Refusal → Served → ℕ → List Said
said_polled (Ok messages) served left = told_all messages (is_last_poll served left)
said_polled (Err refusal) served left = Finish (Some refusal) ∷ []

abbrev pub kept_polled : Result (List (List ℕ)) Refusal → Served → ℕ → List Served
kept_polled (Ok messages) served left =
    if is_last_poll served left then [] else record served { polls = left } ∷ []
kept_polled (Err refusal) served left = []

pub record IsPollTurn (schema : List SchemaNode) (served : Served) (others later : List Served)
    (deed : Deed) (old new : Service) : Type 0 where
  pub left : ℕ
  pub polls : served.polls ≡ left + 1
  pub result : Result (List (List ℕ)) Refusal
  pub after : CallView
  pub turn : IsTurn schema (new_call served.call.plan) after result (said_polled result served left)
      (others ++ kept_polled result served left ++ later) deed old new

abbrev pub IsTurnIn : ListMode → List SchemaNode → Served → List Served → List Served → Deed
    → Service → Service → Type 0
IsTurnIn modes.Stream schema served others later deed old new =
    IsStreamTurn schema served others later deed old new
IsTurnIn modes.Poll schema served others later deed old new =
    IsPollTurn schema served others later deed old new
IsTurnIn mode schema served others later deed old new = ⊥

-- A call takes a turn when its stream is free,
pub record IsCallTurn (schema : List SchemaNode) (deed : Deed) (old new : Service) : Type 0 where
  pub served : Served
  pub others : List Served
  pub later : List Served
  pub among : IsAmong deed.stream served others later old.calls
  pub free : ready_at deed ≡ Free
  pub turn : IsTurnIn served.call.plan.mode schema served others later deed old new

-- and is dropped when it is over.
pub record IsDropped (deed : Deed) (old new : Service) : Type 0 where
  pub served : Served
  pub others : List Served
  pub later : List Served
  pub among : IsAmong deed.stream served others later old.calls
  pub over : ready_at deed ≡ Gone
  pub plain : IsPlain [] (others ++ later) deed old new

-- ---- the first message of a Subscribe call

-- A call of mode ONCE is answered, and the others are served from then on, in the place of any call on their stream (there is none,
-- since the peer opens a stream once).
abbrev pub IsBegun : List SchemaNode → Plan → ListMode → Deed → Service → Service → Type 0
IsBegun schema plan modes.Once deed old new = IsOnce schema plan deed old new
IsBegun schema plan modes.Other deed old new =
    IsPlain (told (Err Unsupported)) old.calls deed old new
IsBegun schema plan mode deed old new =
    IsPlain [] (others_than deed.stream old.calls ++ new_served deed.stream plan ∷ []) deed old new

abbrev pub IsFirst : List SchemaNode → Result SubscribeStep Refusal → Deed → Service → Service
    → Type 0
IsFirst schema (Ok (Begin plan)) deed old new = IsBegun schema plan plan.mode deed old new
IsFirst schema (Ok Poll) deed old new = ⊥
IsFirst schema (Err refusal) deed old new = IsPlain (told (Err refusal)) old.calls deed old new

-- ---- what comes behind it

-- the call ends with a refusal, and its Polls that wait are dropped
abbrev pub IsEndedBy : Refusal → List Served → List Served → Deed → Service → Service → Type 0
IsEndedBy refusal others later deed old new =
    IsPlain (told (Err refusal)) (others ++ later) deed old new

-- One Poll more waits, as long as no more wait than may.
abbrev pub IsPolled : Bool → Served → List Served → List Served → Deed → Service → Service → Type 0
IsPolled true served others later deed old new =
    IsPlain [] (others ++ record served { polls = served.polls + 1 } ∷ [] ++ later) deed old new
IsPolled false served others later deed old new = IsEndedBy BadSubscribe others later deed old new

abbrev pub IsNext : Result SubscribeStep Refusal → Served → List Served → List Served → Deed
    → Service → Service → Type 0
IsNext (Ok Poll) served others later deed old new =
    IsPolled (nat_lt served.polls most_polls) served others later deed old new
IsNext (Ok (Begin plan)) served others later deed old new = ⊥
IsNext (Err refusal) served others later deed old new = IsEndedBy refusal others later deed old new

-- The peer's end ends a call of mode POLL, once no Poll waits; one of mode STREAM goes on.
abbrev pub IsEnding : ListMode → ℕ → Served → List Served → List Served → Deed
    → Service → Service → Type 0
IsEnding modes.Poll zero served others later deed old new =
    IsPlain (Finish None ∷ []) (others ++ later) deed old new
IsEnding modes.Poll (suc polls) served others later deed old new =
    IsPlain [] (others ++ record served { ended = true } ∷ [] ++ later) deed old new
IsEnding mode polls served others later deed old new = IsPlain [] old.calls deed old new

abbrev pub IsHeardBy : Later → Served → List Served → List Served → Deed → Service → Service
    → Type 0
IsHeardBy (later.Message body) served others more deed old new =
    IsNext (subscribe_step (Some served.call.plan.mode) body) served others more deed old new
    ⊎ IsEndedBy NoMemory others more deed old new
IsHeardBy (later.Fault refusal) served others more deed old new =
    IsEndedBy refusal others more deed old new
IsHeardBy later.End served others more deed old new =
    IsEnding served.call.plan.mode served.polls served others more deed old new

pub record IsHeard (what : Later) (deed : Deed) (old new : Service) : Type 0 where
  pub served : Served
  pub others : List Served
  pub later : List Served
  pub among : IsAmong deed.stream served others later old.calls
  pub next : IsHeardBy what served others later deed old new

-- Where the call has ended, or was handed to a feeder, the message isn't looked at, and nothing is said of it.
pub record IsUnheard (deed : Deed) (old new : Service) : Type 0 where
  pub elsewhere : AreElsewhere deed.stream old.calls
  pub plain : IsPlain [] old.calls deed old new

-- A call of mode STREAM is handed to a feeder. The session itself says nothing on its stream, and doesn't serve it.
pub record IsHanded (body : List ℕ) (deed : Deed) (old new : Service) : Type 0 where
  pub plan : Plan
  pub begins : subscribe_step None body ≡ Ok (Begin plan)
  pub streams : plan.mode ≡ modes.Stream
  pub plain : IsPlain [] old.calls deed old new

-- ---- any deed

abbrev pub IsAnswer : List SchemaNode → Asked → Deed → Service → Service → Type 0
IsAnswer schema (asks.Call method body) deed old new = IsReply schema method body deed old new
IsAnswer schema (asks.Subscribe body) deed old new =
    IsFirst schema (subscribe_step None body) deed old new
    ⊎ IsPlain (told (Err NoMemory)) old.calls deed old new
IsAnswer schema (asks.Later what) deed old new =
    IsHeard what deed old new ⊎ IsUnheard deed old new
IsAnswer schema (asks.Http status) deed old new =
    IsPlain (Status status ∷ []) old.calls deed old new
IsAnswer schema (asks.Refused refusal) deed old new =
    IsPlain (told (Err refusal)) old.calls deed old new

abbrev pub IsDone : List SchemaNode → Doing → Deed → Service → Service → Type 0
IsDone schema (Answering asked) deed old new = IsAnswer schema asked deed old new
IsDone schema (Handing body) deed old new = IsHanded body deed old new
IsDone schema Turning deed old new = IsCallTurn schema deed old new
IsDone schema Dropping deed old new = IsDropped deed old new

abbrev pub IsDeed : List SchemaNode → Deed → Service → Service → Type 0
IsDeed schema deed old new = IsDone schema deed.doing deed old new

-- These deeds, each from where the one before it left all.
abbrev pub AreDone : List SchemaNode → Service → List Deed → Service → Type 0
AreDone schema old [] new = new ≡ old
AreDone schema old (deed ∷ deeds) new =
    (next : Service) × IsDeed schema deed old next × AreDone schema next deeds new

-- ---- what is read off deeds

-- the requests that were answered, or handed on
abbrev pub asked_in : ℕ → Doing → List Request
asked_in stream (Answering asked) = record { stream = stream; asked = asked } ∷ []
asked_in stream (Handing body) = record { stream = stream; asked = asks.Subscribe body } ∷ []
asked_in stream Turning = []
asked_in stream Dropping = []

abbrev pub requests_in : List Deed → List Request
requests_in [] = []
requests_in (deed ∷ deeds) = asked_in deed.stream deed.doing ++ requests_in deeds

abbrev pub readings_in : List Deed → List ℕ
readings_in [] = []
readings_in (deed ∷ deeds) = deed.readings ++ readings_in deeds

-- the turns of the book that were taken
abbrev pub turn_in : Option Turn → List Turn
turn_in None = []
turn_in (Some turn) = turn ∷ []

abbrev pub turns_in : List Deed → List Turn
turns_in [] = []
turns_in (deed ∷ deeds) = turn_in deed.turn ++ turns_in deeds

-- how many turns a fault of the disk ended
abbrev pub fault_in : Option Turn → Bool → ℕ
fault_in None failed = 0
fault_in (Some turn) failed = if failed then 1 else 0

abbrev pub faults_in : List Deed → ℕ
faults_in [] = 0
faults_in (deed ∷ deeds) = fault_in deed.turn deed.failed + faults_in deeds

-- what the deeds say on a stream
abbrev pub said_to : ℕ → List Deed → List Said
said_to stream [] = []
said_to stream (deed ∷ deeds) =
    if deed.stream == stream then deed.said ++ said_to stream deeds
    else said_to stream deeds

-- the streams of the calls that were handed to feeders
abbrev pub handed_by : ℕ → Doing → List ℕ
handed_by stream (Handing body) = stream ∷ []
handed_by stream doing = []

abbrev pub handed_in : List Deed → List ℕ
handed_in [] = []
handed_in (deed ∷ deeds) = handed_by deed.stream deed.doing ++ handed_in deeds
