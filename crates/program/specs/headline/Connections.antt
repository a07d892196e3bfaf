-- A connection: the octets that came, however they were cut, what they ask, and the octets that went out.
use Rattle.std.specs.Prelude.{◌≡◌, ◌⊎◌, ℕ, List, [], ◌∷◌, ◌++◌, length, false, Some, None, Ok, map}
use Rattle.std.specs.List.{AllByRecursion}
use Rattle.base_kinds.specs.declared.entry.Entry.{Entry}
use Rattle.base_kinds.specs.declared.refusal.Refusal.{Refusal}
use Rattle.base_kinds.specs.declared.request.ListMode.TheVariants.{Stream}
use Rattle.base_kinds.specs.Schema.{SchemaNode}
use Rattle.base_kinds.specs.Step.{Rules}
use Rattle.book_port.specs.Follows.{Turn}
use Rattle.environment.specs.Input.{Input as Source}
use Rattle.environment.specs.Output.{Output}
use Rattle.gnmi_kinds.specs.declared.reply.SubReply.{SubReply}
use Rattle.sub_plan.specs.declared.plan.Plan.{Plan}
use Rattle.subscribe_calls.specs.Calls.{replies_octets}
use Rattle.h2_streams.specs.Calls.{Moment, events_of, reads_of}
use Rattle.h2_events.specs.Items.{as_read, said_on, written}
use Rattle.h2_events.specs.declared.port.Ready.TheVariants.{Busy}
use Rattle.h2_events.specs.declared.said.Said.{Said}
use Rattle.h2_events.specs.declared.said.Said.TheVariants.{Message, Finish}
use Rattle.h2_send.specs.Accepting.{AreAccepted}
use Rattle.h2_send.specs.Inputs.{Input}
use Rattle.h2_send.specs.Lines.{first_line}
use Rattle.h2_send.specs.Messages.{octets_said, data_on}
use Rattle.h2_send.specs.Offers.{ready_on}
use Rattle.h2_send.specs.Orders.{line_after, order_of}
use Rattle.request_desk.specs.Subscribes.{subscribe_step}
use Rattle.request_desk.specs.declared.subscribe_steps.SubscribeStep.TheVariants.{Begin}
use Rattle.grpc_requests.specs.declared.request.Request.{Request}
use Rattle.grpc_requests.specs.Requests.{requests}
use Rattle.stream_workers.specs.Feeders.{is_fed}
use Rattle.session_core.specs.declared.how.How.{How}
use Rattle.session_core.specs.declared.how.How.TheVariants as hows
use Rattle.session_core.specs.Deeds.{Deed, Handing, Turning, handed_in, requests_in, said_to, turns_in}
use Rattle.session_core.specs.Feeding.{left_last}
use Rattle.session_core.specs.Reading.{IsMadeOf}
use Rattle.session_core.specs.Rounds.{AreTimely}
use Rattle.session_core.specs.Runs.{IsGivenBeside}
use Rattle.session_core.specs.Serving.{without_fed}
use Rattle.session_core.specs.Saying.{IsFront, IsOver}
use Rattle.session_core.specs.Writing.{IsWritten}
use Rattle.session_core.specs.laws.PollLaws.{AsksPoll, IsTurnOn}
use Rattle.session_core.specs.laws.RunLaws.{AsksOnce}
use Rattle.session_core.specs.laws.StreamLaws.{AsksStream, NoneBegins, said_in_turns}
use Rattle.program.specs.headline.Marks.{FoldsAtMarks, ReadsState}
use Rattle.program.specs.headline.Sessions.{IsEnd, TakesPart}

-- a call of mode STREAM that was handed to a thread of its own: its stream, and the plan of its subscriptions
pub record Subscriber : Type 0 where
  pub stream : ℕ
  pub plan : Plan

abbrev pub subscribed_streams : List Subscriber → List ℕ
subscribed_streams fed = map (λ one. one.stream) fed

-- one of the deeds handed it over, at a first message that has this plan, of mode STREAM
pub record WasHandedOver (deeds : List Deed) (one : Subscriber) : Type 0 where
  pub before : List Deed
  pub deed : Deed
  pub after : List Deed
  pub among : deeds ≡ before ++ deed ∷ after
  pub on : deed.stream ≡ one.stream
  pub body : List ℕ
  pub asked : deed.doing ≡ Handing body
  pub begins : subscribe_step None body ≡ Ok (Begin one.plan)
  pub mode : one.plan.mode ≡ Stream

-- one of the deeds began a call of mode STREAM or POLL on the stream, which the session serves itself
pub record HasBegun (stream : ℕ) (deeds : List Deed) : Type 0 where
  pub before : List Deed
  pub deed : Deed
  pub after : List Deed
  pub among : deeds ≡ before ++ deed ∷ after
  pub on : deed.stream ≡ stream
  pub plan : Plan
  pub asks_for : AsksStream plan deed ⊎ AsksPoll plan deed

-- What is said are notifications and syncs that fold at every mark to states of h, none before this position, and perhaps the end of
-- the call after them.
pub record SaysStates (schema : List SchemaNode) (plan : Plan) (h : List Entry) (since : ℕ)
    (said : List Said) : Type 0 where
  pub messages : List SubReply
  pub folds : FoldsAtMarks plan h since messages
  pub end : List Said
  pub ends : IsEnd end
  pub said_is : said ≡ map Message (replies_octets schema plan messages) ++ end

-- What is said is one read of the state that the deed's turn left.
pub record SaysState (schema : List SchemaNode) (plan : Plan) (h : List Entry) (deed : Deed)
    : Type 0 where
  pub turn : Turn
  pub taken : deed.turn ≡ Some turn
  pub messages : List SubReply
  pub reads : ReadsState plan h (length turn.left) messages
  pub end : List Said
  pub ends : IsEnd end
  pub said_is : deed.said ≡ map Message (replies_octets schema plan messages) ++ end

-- that, or the call is refused
abbrev pub SaysStateOrRefuses : List SchemaNode → Plan → List Entry → Deed → Type 0
SaysStateOrRefuses schema plan h deed =
    SaysState schema plan h deed
    ⊎ ((refusal : Refusal) × (deed.said ≡ Finish (Some refusal) ∷ []))

-- the connection ended otherwise than by a fault of its output, or for memory
abbrev pub IsWhole : How → Type 0
IsWhole hows.WriteFault = ⊥
IsWhole hows.NoMemory = ⊥
IsWhole how = Unit {0}

-- what the deeds say on the stream was said; or the stream is over; or the peer's windows are shut for it (RFC 9113 5.2)
abbrev pub IsAllSaid : ℕ → List Input → List Deed → Type 0
IsAllSaid stream inputs deeds =
    (said_on stream (order_of inputs) ≡ said_to stream deeds)
    ⊎ IsOver stream (order_of inputs)
    ⊎ (ready_on stream (line_after first_line inputs).streams ≡ Busy)

pub record Converses (schema : List SchemaNode) (rules : Rules) (h : List Entry) (author : ℕ)
    (seen : List Entry) (how : How) (input : Source) (output : Output) (input_left : Source)
    (output_left : Output) : Type 0 where
  -- The octets that came; the frames that they are (RFC 9113), with the ends of streams by this side between them; and all that was
  -- heard and said, in one order. How the connection ended is made so by its octets: all of them are whole frames where the peer closed
  -- it, and frames before an error where it ended for one. Where the output failed or memory ran out a prefix was served.
  pub octets : List ℕ
  pub moments : List Moment
  pub inputs : List Input
  pub fed : List Subscriber
  pub came : input_left.given ≡ input.given ++ octets
  pub given : IsGivenBeside (subscribed_streams fed) how octets input input_left
  pub frames : IsMadeOf how octets moments inputs
  -- What was given to the sending half could be given where it came, and is in the order of the frames, but for the ends of the
  -- subscribers' calls.
  pub accepted : AreAccepted first_line inputs
  pub one_order : without_fed (subscribed_streams fed) (as_read (order_of inputs))
      ≡ without_fed (subscribed_streams fed) (reads_of moments)
  -- What was done, in order. Each request of these frames is answered once, in the order in which they came. Where the connection
  -- ended whole none is left.
  pub deeds : List Deed
  pub owed : List Request
  pub asked : requests_in deeds ++ owed ≡ requests (events_of moments)
  pub none_owed : IsWhole how → owed ≡ []
  pub part : TakesPart schema rules h author seen deeds
  -- On each stream that isn't a subscriber's a prefix of what the deeds say for it was said, in order. Where the connection ended whole
  -- that is all of it, unless the stream was over before (reset, or ended: RFC 9113 5.1), or its octets wait for the peer's windows.
  pub handed : subscribed_streams fed ≡ handed_in deeds
  pub said : (stream : ℕ) → is_fed (subscribed_streams fed) stream ≡ false →
      IsFront (said_on stream (order_of inputs)) (said_to stream deeds)
  pub all_said : IsWhole how → (stream : ℕ) →
      is_fed (subscribed_streams fed) stream ≡ false → IsAllSaid stream inputs deeds
  -- Each subscriber folds to states of h, none older than what the session's turns had left before its call was handed over. A call of
  -- mode STREAM that the session serves itself folds to states of h too. (A peer opens a stream once, RFC 9113 5.1.1. Of one on which it
  -- would begin two calls nothing is said.)
  pub streams : AllByRecursion (λ one. (over : WasHandedOver deeds one)
      × SaysStates schema one.plan h (length (left_last seen (turns_in over.before)))
      (said_on one.stream (order_of inputs))) fed
  pub own_streams : (before after : List Deed) (deed : Deed) (plan : Plan) →
      deeds ≡ before ++ deed ∷ after → AsksStream plan deed → NoneBegins deed.stream before →
      NoneBegins deed.stream after → SaysStates schema plan h 0 (said_in_turns deed.stream after)
  -- A turn is taken once all that was asked before it is answered, and all that was to be said on its stream was said. No other call
  -- takes turns but these, and those of mode POLL.
  pub timely : AreTimely (subscribed_streams fed) [] deeds
  pub turns : (before after : List Deed) (deed : Deed) → deeds ≡ before ++ deed ∷ after →
      deed.doing ≡ Turning → HasBegun deed.stream before
  -- A call of mode ONCE reads one state,
  pub once : AllByRecursion
      (λ deed. (plan : Plan) → AsksOnce plan deed → SaysStateOrRefuses schema plan h deed) deeds
  -- and so does each Poll of a call of mode POLL
  pub polls : (before after : List Deed) (deed : Deed) (plan : Plan) →
      deeds ≡ before ++ deed ∷ after → AsksPoll plan deed → NoneBegins deed.stream before →
      NoneBegins deed.stream after → AllByRecursion
      (λ later. IsTurnOn deed.stream later → SaysStateOrRefuses schema plan h later) after
  -- the octets that went out are the frames of that, and the DATA of each stream a prefix of the messages that were said there
  pub out : IsWritten how octets moments inputs output output_left
  pub wrote : (stream : ℕ) → (rest : List ℕ)
      × (octets_said (said_on stream (order_of inputs))
      ≡ data_on stream (written (order_of inputs)) ++ rest)
