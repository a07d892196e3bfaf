-- What Subscribe calls of mode STREAM say that a session serves itself, whichever others feeders serve (gNMI 3.5.1.5.2).
use Rattle.std.specs.Prelude.{◌≡◌, ◌⊎◌, ℕ, ◌==◌, ◌&&◌, List, [], ◌∷◌, ◌++◌, false, Option, None, Ok, Err, map, if◌then◌else◌}
use Rattle.std.specs.List.{AllByRecursion}
use Rattle.base_kinds.specs.declared.entry.Entry.{Entry}
use Rattle.base_kinds.specs.declared.refusal.Refusal.TheVariants.{NoMemory}
use Rattle.base_kinds.specs.declared.request.ListMode.TheVariants.{Stream}
use Rattle.base_kinds.specs.Schema.{SchemaNode}
use Rattle.gnmi_kinds.specs.declared.reply.SubReply.{SubReply}
use Rattle.h2_events.specs.declared.said.Said.{Said}
use Rattle.h2_events.specs.declared.said.Said.TheVariants.{Message}
use Rattle.request_desk.specs.Subscribes.{subscribe_step}
use Rattle.request_desk.specs.declared.subscribe_steps.SubscribeStep.TheVariants.{Begin}
use Rattle.grpc_requests.specs.declared.request.Asked.TheVariants.{Subscribe}
use Rattle.stream_laws.specs.Streams.{StreamView}
use Rattle.sub_plan.specs.declared.plan.Plan.{Plan}
use Rattle.subscribe_calls.specs.Calls.{HaveSaid, replies_octets}
use Rattle.session_core.specs.declared.how.How.{How}
use Rattle.session_core.specs.Deeds.{Deed, Doing, Answering, told}
use Rattle.session_core.specs.Rounds.{is_turn}
use Rattle.session_core.specs.Runs.{Outside, RunBeside}
use Rattle.session_core.specs.Serving.{deeds_in}

-- the deed is the answer to a call of mode STREAM with this plan
pub record AsksStream (plan : Plan) (deed : Deed) : Type 0 where
  pub body : List ℕ
  pub asked : deed.doing ≡ Answering (Subscribe body)
  pub begins : subscribe_step None body ≡ Ok (Begin plan)
  pub streams : plan.mode ≡ Stream

-- none of the deeds answers a first message of a call on the stream, which the peer opens once
abbrev pub IsFirstMessage : Doing → Type 0
IsFirstMessage (Answering (Subscribe body)) = Unit {0}
IsFirstMessage _ = ⊥

abbrev pub NoneBegins : ℕ → List Deed → Type 0
NoneBegins stream deeds =
    AllByRecursion
    (λ (deed : Deed). IsFirstMessage deed.doing → (deed.stream == stream) ≡ false) deeds

-- what the turns on the stream say
abbrev pub said_in_turns : ℕ → List Deed → List Said
said_in_turns stream [] = []
said_in_turns stream (deed ∷ deeds) =
    if deed.stream == stream && is_turn deed.doing then deed.said ++ said_in_turns stream deeds
    else said_in_turns stream deeds

-- It is the messages of a run of the plan's stream over this history, and perhaps, behind them, that memory was wanting.
pub record SaysRun (schema : List SchemaNode) (plan : Plan) (h : List Entry) (said : List Said)
    : Type 0 where
  pub messages : List SubReply
  pub stream : Option StreamView
  pub run : HaveSaid plan messages h stream
  pub end : List Said
  pub ends : (end ≡ []) ⊎ (end ≡ told (Err NoMemory))
  pub said_is : said ≡ map Message (replies_octets schema plan messages) ++ end

-- so it is for what the turns of each such call say, over the history that was seen last
abbrev pub StreamCallsSayRuns : Type 0
StreamCallsSayRuns = (fed : List ℕ) (schema : List SchemaNode) (old new : Outside) (how : How)
    → (run : RunBeside fed schema old how new)
    → (before after : List Deed) (deed : Deed) (plan : Plan)
    → deeds_in run.served ≡ before ++ deed ∷ after → AsksStream plan deed
    → NoneBegins deed.stream before → NoneBegins deed.stream after
    → SaysRun schema plan new.port.seen (said_in_turns deed.stream after)
