-- What Subscribe calls of mode POLL say, whichever others feeders serve (gNMI 3.5.1.5.3).
use Rattle.std.specs.Prelude.{◌≡◌, ◌⊎◌, ℕ, ◌==◌, ◌&&◌, List, [], ◌∷◌, ◌++◌, length, Bool, true, Some, None, Ok, Err}
use Rattle.std.specs.List.{AllByRecursion}
use Rattle.base_kinds.specs.declared.entry.Entry.{Entry}
use Rattle.base_kinds.specs.declared.refusal.Refusal.TheVariants.{DiskFault, NoMemory}
use Rattle.base_kinds.specs.declared.request.ListMode.TheVariants.{Poll}
use Rattle.base_kinds.specs.Schema.{SchemaNode}
use Rattle.book_port.specs.Follows.{Turn}
use Rattle.gnmi_kinds.specs.declared.reply.SubReply.{SubReply}
use Rattle.request_desk.specs.Subscribes.{subscribe_step}
use Rattle.request_desk.specs.declared.subscribe_steps.SubscribeStep.TheVariants.{Begin}
use Rattle.grpc_requests.specs.declared.request.Asked.TheVariants.{Subscribe}
use Rattle.stream_laws.specs.Follows.{first_moment}
use Rattle.stream_laws.specs.Runs.{IsStreamRun}
use Rattle.sub_plan.specs.declared.plan.Plan.{Plan}
use Rattle.subscribe_calls.specs.Calls.{replies_octets}
use Rattle.session_core.specs.declared.how.How.{How}
use Rattle.session_core.specs.Deeds.{Deed, Answering, told, told_all}
use Rattle.session_core.specs.Rounds.{is_turn}
use Rattle.session_core.specs.Runs.{Outside, RunBeside}
use Rattle.session_core.specs.Serving.{deeds_in}
use Rattle.session_core.specs.laws.StreamLaws.{NoneBegins}

-- the deed is the answer to a call of mode POLL with this plan
pub record AsksPoll (plan : Plan) (deed : Deed) : Type 0 where
  pub body : List ℕ
  pub asked : deed.doing ≡ Answering (Subscribe body)
  pub begins : subscribe_step None body ≡ Ok (Begin plan)
  pub polls : plan.mode ≡ Poll

-- the deed is a turn of the call that is served on the stream
abbrev pub IsTurnOn : ℕ → Deed → Type 0
IsTurnOn stream deed = (deed.stream == stream && is_turn deed.doing) ≡ true

-- What a turn says are the messages of a run of the plan's stream over this history with that turn alone, which is made where the
-- deed's turn left the history, and perhaps the end of the call.
pub record SaysPolled (schema : List SchemaNode) (plan : Plan) (h : List Entry) (deed : Deed)
    : Type 0 where
  pub turn : Turn
  pub taken : deed.turn ≡ Some turn
  pub messages : List SubReply
  pub run : IsStreamRun plan (first_moment turn.reading (length turn.left)) [] messages h
  pub last : Bool
  pub told : deed.said ≡ told_all (replies_octets schema plan messages) last

-- that, or the call is refused for a fault of the disk, or for want of memory
abbrev pub SaysPolledOrEnds : List SchemaNode → Plan → List Entry → Deed → Type 0
SaysPolledOrEnds schema plan h deed =
    SaysPolled schema plan h deed
    ⊎ (deed.said ≡ told (Err DiskFault)) ⊎ (deed.said ≡ told (Err NoMemory))

-- so it is of each turn of each such call, over the history that was seen last
abbrev pub PollCallsSayStates : Type 0
PollCallsSayStates = (fed : List ℕ) (schema : List SchemaNode) (old new : Outside) (how : How)
    → (run : RunBeside fed schema old how new)
    → (before after : List Deed) (deed : Deed) (plan : Plan)
    → deeds_in run.served ≡ before ++ deed ∷ after → AsksPoll plan deed
    → NoneBegins deed.stream before → NoneBegins deed.stream after
    → AllByRecursion (λ later. IsTurnOn deed.stream later
    → SaysPolledOrEnds schema plan new.port.seen later) after
