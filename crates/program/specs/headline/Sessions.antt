-- What one session did at the one history: what it was asked, in which turn it was answered, and what was said for it.
use Rattle.std.specs.Prelude.{◌≡◌, ◌⊎◌, ℕ, List, [], ◌∷◌, drop, length, Option, Some, None, Result, Ok, Err}
use Rattle.std.specs.List.{AllByRecursion}
use Rattle.base_kinds.specs.declared.entry.Entry.{Entry}
use Rattle.base_kinds.specs.declared.refusal.Refusal.{Refusal}
use Rattle.base_kinds.specs.declared.refusal.Refusal.TheVariants.{NoMemory}
use Rattle.base_kinds.specs.declared.request.ListMode.{ListMode}
use Rattle.base_kinds.specs.declared.request.ListMode.TheVariants.{Once}
use Rattle.base_kinds.specs.Schema.{SchemaNode}
use Rattle.base_kinds.specs.Step.{Rules}
use Rattle.book_port.specs.Chronicles.{entries_by}
use Rattle.book_port.specs.Follows.{Turn, Follows, made_by}
use Rattle.h2_events.specs.declared.said.Said.{Said}
use Rattle.h2_events.specs.declared.said.Said.TheVariants.{Finish, Status}
use Rattle.request_desk.specs.Answers.{Answers}
use Rattle.request_desk.specs.Services.{task_of}
use Rattle.request_desk.specs.Subscribes.{subscribe_step}
use Rattle.request_desk.specs.declared.subscribe_steps.SubscribeStep.{SubscribeStep}
use Rattle.request_desk.specs.declared.subscribe_steps.SubscribeStep.TheVariants.{Begin, Poll}
use Rattle.grpc_requests.specs.declared.request.Asked.{Asked}
use Rattle.grpc_requests.specs.declared.request.Asked.TheVariants as asks
use Rattle.session_core.specs.Deeds.{Deed, Doing, Answering, Dropping, Handing, Turning, told, turns_in}
use Rattle.program.specs.headline.Terms.{IsAt, ChangesNothing}

-- A unary call (gNMI 3.2 to 3.4) is answered as the rules of the target say of the history that its turn found: Capabilities by
-- itself, a Get by the rows of that state, a Set by the one commit that it becomes or by the first refusal that applies. In place
-- of that answer a disk fault or out of memory may be answered (`Answers`).
pub record Replies (answers : Result (List ℕ) Refusal → Type 0) (deed : Deed) : Type 0 where
  pub result : Result (List ℕ) Refusal
  pub by_rules : answers result
  pub says : deed.said ≡ told result
  -- a call that is refused, for whatever cause, changed nothing
  pub refused : (refusal : Refusal) (turn : Turn) → result ≡ Err refusal →
      deed.turn ≡ Some turn → ChangesNothing turn

-- nothing more is said, or the end of the call, with its refusal where there is one
abbrev pub IsEnd : List Said → Type 0
IsEnd end = (end ≡ []) ⊎ ((refusal : Option Refusal) × (end ≡ Finish refusal ∷ []))

-- no turn is taken, and nothing said but the end of the call
pub record SaysEnd (deed : Deed) : Type 0 where
  pub says : IsEnd deed.said
  pub no_turn : deed.turn ≡ None

-- the call is refused so, or for memory, without a turn
pub record Refuses (refusal : Refusal) (deed : Deed) : Type 0 where
  pub says : (deed.said ≡ told (Err refusal)) ⊎ (deed.said ≡ told (Err NoMemory))
  pub no_turn : deed.turn ≡ None

-- its turn is a look: it changes nothing
abbrev pub OnlyLooks : Deed → Type 0
OnlyLooks deed = (turn : Turn) → deed.turn ≡ Some turn → ChangesNothing turn

-- The first message of a Subscribe call (gNMI 3.5.1.5): it is refused; or the call is of mode ONCE, and looks; or it is of another mode,
-- and nothing is said for this message but the end of the call. What its turns say is in Connections.antt.
abbrev pub IsBegun : ListMode → Deed → Type 0
IsBegun Once deed = OnlyLooks deed
IsBegun mode deed = SaysEnd deed

abbrev pub IsSubscribed : Result SubscribeStep Refusal → Deed → Type 0
IsSubscribed (Err refusal) deed = Refuses refusal deed
IsSubscribed (Ok (Begin plan)) deed = IsBegun plan.mode deed
IsSubscribed (Ok Poll) deed = SaysEnd deed

abbrev pub IsAnsweredTo : List SchemaNode → Rules → ℕ → Asked → Deed → Type 0
IsAnsweredTo schema rules author (asks.Call method body) deed =
    Replies (Answers rules author (task_of schema method body) deed.turn) deed
IsAnsweredTo schema rules author (asks.Subscribe body) deed =
    IsSubscribed (subscribe_step None body) deed
-- a later message of a Subscribe call, or its end
IsAnsweredTo schema rules author (asks.Later what) deed = SaysEnd deed
-- what is no call of gRPC is answered by an HTTP status, and a call that is refused for its headers or framing by that refusal
IsAnsweredTo schema rules author (asks.Http status) deed =
    (deed.said ≡ Status status ∷ []) × (deed.turn ≡ None)
IsAnsweredTo schema rules author (asks.Refused refusal) deed =
    (deed.said ≡ told (Err refusal)) × (deed.turn ≡ None)

-- What a deed is: something that was asked is answered; a call that is served takes a turn; or a call is handed over or dropped, and
-- nothing is said for that.
abbrev pub IsDoneTo : List SchemaNode → Rules → ℕ → Doing → Deed → Type 0
IsDoneTo schema rules author (Answering asked) deed = IsAnsweredTo schema rules author asked deed
IsDoneTo schema rules author Turning deed = OnlyLooks deed
IsDoneTo schema rules author (Handing body) deed = (deed.said ≡ []) × (deed.turn ≡ None)
IsDoneTo schema rules author Dropping deed = (deed.said ≡ []) × (deed.turn ≡ None)

abbrev pub IsAnswered : List SchemaNode → Rules → ℕ → Deed → Type 0
IsAnswered schema rules author deed = IsDoneTo schema rules author deed.doing deed

-- its turn is taken at one reading of the session's clock
abbrev pub IsClocked : Deed → Type 0
IsClocked deed =
    (turn : Turn) → deed.turn ≡ Some turn → deed.readings ≡ turn.reading ∷ []

-- The part of a session in the history h. `seen` is the prefix of h with which the session began; its commits bear its author,
-- a number that no other session of the run has (OneHistory.antt).
pub record TakesPart (schema : List SchemaNode) (rules : Rules) (h : List Entry) (author : ℕ)
    (seen : List Entry) (deeds : List Deed) : Type 0 where
  pub answers : AllByRecursion (IsAnswered schema rules author) deeds
  pub clocked : AllByRecursion IsClocked deeds
  -- each turn is a step of the one history (one total order)
  pub at : AllByRecursion (IsAt h) (turns_in deeds)
  -- Each turn finds what the turn before left, with commits of others at most after it: the session sees its own Sets at once
  -- (read your writes), and never an older state than before (monotonic reads).
  pub in_order : Follows author seen (turns_in deeds) h
  -- the commits of this author are the session's accepted Sets, each once, in their order
  pub once : entries_by author (drop (length seen) h) ≡ made_by author (turns_in deeds)
