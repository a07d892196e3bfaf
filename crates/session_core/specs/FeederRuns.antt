-- A whole connection that is served beside feeders: what the session did itself, and what each feeder did.
use Rattle.std.specs.Prelude.{◌≡◌, ℕ, List, [], ◌∷◌, ◌++◌, false, None, Ok}
use Rattle.std.specs.List.{AllByRecursion}
use Rattle.base_kinds.specs.declared.entry.Entry.{Entry}
use Rattle.base_kinds.specs.declared.request.ListMode.TheVariants.{Stream}
use Rattle.base_kinds.specs.Schema.{SchemaNode}
use Rattle.book_port.specs.Opened.{Opened}
use Rattle.book_port.specs.Ports.{PortView}
use Rattle.h2_events.specs.Items.{said_on}
use Rattle.h2_send.specs.Conditions.{IsClosed}
use Rattle.h2_send.specs.Inputs.{Input}
use Rattle.h2_send.specs.Orders.{order_of}
use Rattle.request_desk.specs.Subscribes.{subscribe_step}
use Rattle.request_desk.specs.declared.subscribe_steps.SubscribeStep.TheVariants.{Begin}
use Rattle.stream_workers.specs.Feeders.{Feeder, MeetsEach, streams_of, words_of}
use Rattle.stream_workers.specs.Ports.{own_port}
use Rattle.stream_worker.specs.Feeds.{Feeds}
use Rattle.session_core.specs.declared.how.How.{How}
use Rattle.session_core.specs.Deeds.{Deed, Handing, handed_in, turns_in}
use Rattle.session_core.specs.Feeding.{left_last}
use Rattle.session_core.specs.Runs.{Outside, RunBeside, outside_of}
use Rattle.session_core.specs.Serving.{deeds_in}
use Rattle.session_core.specs.Writing.{IsLostLast}

-- A further port of a book that was opened so, with this name: it has seen this history, and taken no turn.
pub record IsNewPort (opened : Opened) (book : List ℕ) (h : List Entry) (port : PortView)
    : Type 0 where
  pub opened_is : port.opened ≡ opened
  pub book_is : port.book ≡ book
  pub shared : port.is_alone ≡ false
  pub start_is : port.start ≡ h
  pub seen_is : port.seen ≡ h
  pub no_finds : port.finds ≡ []
  pub none_made : port.made ≡ []
  pub no_marks : port.marks ≡ 0
  pub none_met : port.met ≡ []

-- The feeder's call is the one that one of these deeds handed to it. Its ports were new then, and that of the book had seen the
-- history that the session's turns before had left. What is said on its stream is just what it said there.
pub record ServesCall (schema : List SchemaNode) (port : PortView) (deeds : List Deed)
    (given : List Input) (feeder : Feeder) : Type 0 where
  pub before : List Deed
  pub deed : Deed
  pub after : List Deed
  pub whole : deeds ≡ before ++ deed ∷ after
  pub on : deed.stream ≡ feeder.stream
  pub body : List ℕ
  pub asked : deed.doing ≡ Handing body
  pub begins : subscribe_step None body ≡ Ok (Begin feeder.plan)
  pub streams : feeder.plan.mode ≡ Stream
  pub new_port : IsNewPort port.opened port.book (left_last port.seen (turns_in before))
      feeder.from.book
  pub unused : feeder.from.wire.given ≡ []
  pub feeds : Feeds schema feeder.stream feeder.plan feeder.end feeder.from feeder.to
  pub said : said_on feeder.stream (order_of given) ≡ words_of feeds
  -- What its port had seen of the sending half at its end stands first in all that this was given, and is all of it where the half
  -- was closed.
  pub rest : List Input
  pub seen : given ≡ feeder.to.wire.progress.inputs ++ rest
  pub closed : IsClosed feeder.to.wire.progress.condition → rest ≡ []

-- A session with feeders: what it did itself up to the end of the connection, what each feeder did, and the port behind the
-- meetings with theirs.
pub record SessionRunBeside (schema : List SchemaNode) (old : Outside) (how : How) (new : Outside)
    : Type 0 where
  pub feeders : List Feeder
  -- the session's port before it met those of the feeders
  pub port : PortView
  pub shared : port.is_alone ≡ false
  pub run : RunBeside (streams_of feeders) schema
      (outside_of old.input old.output (own_port old.port) old.readings) how
      (outside_of new.input new.output (own_port port) new.readings)
  -- they are those of the calls that were handed over, in order
  pub each : streams_of feeders ≡ handed_in (deeds_in run.served)
  -- all that the sending half was given, by the session and by them
  pub given : List Input
  pub last : IsLostLast how run.inputs given
  pub served : AllByRecursion
      (ServesCall schema old.port (deeds_in run.served) given) feeders
  pub met : MeetsEach port feeders new.port
