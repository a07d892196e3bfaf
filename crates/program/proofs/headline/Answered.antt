-- What a session answers is what the rules say of the history that its turn found, and what it refuses changes nothing.
use Rattle.std.proofs.Common.{◌≡◌, ◌⊎◌, inl, inr, ℕ, zero, suc, nat_lt, List, [], ◌∷◌, Bool, true, false, true≢false, refl, sym, ap, ◌∙◌, subst, Option, Some, None, Result, Ok, Err}
use Rattle.std.specs.List.{AllByRecursion}
use Rattle.base_kinds.specs.declared.entry.Ask.{Ask}
use Rattle.base_kinds.specs.declared.entry.Entry.{Entry}
use Rattle.base_kinds.specs.declared.refusal.Refusal.{Refusal}
use Rattle.base_kinds.specs.declared.entry.View.{View}
use Rattle.base_kinds.specs.declared.path.Elem.{Elem}
use Rattle.base_kinds.specs.declared.refusal.Refusal.TheVariants.{BadSubscribe, DiskFault, NoMemory, Unsupported}
use Rattle.base_kinds.specs.declared.request.ListMode.{ListMode}
use Rattle.base_kinds.specs.declared.request.ListMode.TheVariants as modes
use Rattle.base_kinds.specs.Schema.{SchemaNode}
use Rattle.base_kinds.specs.Step.{Rules, after_expiry, is_due, step, with_answer}
use Rattle.book_port.specs.Answers.{AnswersLook, IsCutShort}
use Rattle.book_port.specs.Follows.{Turn}
use Rattle.book_port.specs.Opened.{Opened, rules_in}
use Rattle.book_port.specs.Ports.{PortView, TakesOne}
use Rattle.book_port.proofs.Answering.{quiet_expiry}
use Rattle.request_desk.specs.Answers.{Answers, IsDone as IsDoneAt, IsEnded}
use Rattle.request_desk.specs.Services.{task_of}
use Rattle.request_desk.specs.Subscribes.{subscribe_step}
use Rattle.request_desk.specs.declared.subscribe_steps.SubscribeStep.{SubscribeStep}
use Rattle.request_desk.specs.declared.subscribe_steps.SubscribeStep.TheVariants.{Begin, Poll}
use Rattle.grpc_requests.specs.declared.request.Later.{Later}
use Rattle.grpc_requests.specs.declared.request.Later.TheVariants as later
use Rattle.h2_events.specs.declared.said.Said.{Said}
use Rattle.sub_plan.specs.Groups.{patterns_of}
use Rattle.sub_plan.specs.declared.plan.Plan.{Plan}
use Rattle.subscribe_calls.specs.Calls.{CallView, new_call}
use Rattle.request_desk.specs.Tasks.{Task, Says, Changes, Looks, stamped, needs_turn, answer_at, left_at}
use Rattle.grpc_requests.specs.declared.request.Asked.{Asked}
use Rattle.grpc_requests.specs.declared.request.Asked.TheVariants as asks
use Rattle.session_core.specs.declared.served.Served.{Served}
use Rattle.session_core.specs.Deeds.{Deed, Doing, Answering, Handing, Turning, Dropping, Service, IsAnswer, IsDone, IsEnding, IsFirst, IsHeardBy, IsNext, IsPlain, IsPolled, IsReply, IsTurn, IsTurnIn, AreDone, most_polls, told}
use Rattle.session_core.specs.Deeds as subscribes
use Rattle.program.specs.headline.Terms.{ChangesNothing}
use Rattle.program.specs.headline.Sessions.{IsAnswered, IsAnsweredTo, IsBegun, IsDoneTo, IsEnd, IsSubscribed, OnlyLooks, Replies, SaysEnd}
use Rattle.session_core.proofs.Moves.{Moved, moves}

-- ---- what is refused changes nothing

at_expiry : (turn : Turn) → turn.left ≡ after_expiry turn.found turn.reading → ChangesNothing turn
at_expiry turn left = by_test (is_due turn.found turn.reading) refl
  where
    by_test : (due : Bool) → is_due turn.found turn.reading ≡ due → ChangesNothing turn
    by_test true is = inr (is, left)
    by_test false is = inl (left ∙ quiet_expiry turn.found turn.reading is)

cut_so : (turn : Turn) → IsCutShort turn.found turn.reading turn.left → ChangesNothing turn
cut_so turn (inl same) = inl same
cut_so turn (inr left) = at_expiry turn left

judged_so : (h left : List Entry) (reply : ℕ → List ℕ) (refusal : Refusal) (judged : Result Entry Refusal) → Err refusal ≡ stamped reply judged → left ≡ with_answer h judged → left ≡ h
judged_so h left reply refusal (Ok entry) is whole = absurd (cc is)
judged_so h left reply refusal (Err other) is whole = whole

done_so : (rules : Rules) (author : ℕ) (task : Task) (turn : Turn) (refusal : Refusal) → needs_turn task ≡ true → Err refusal ≡ answer_at rules author task turn.found turn.reading → turn.left ≡ left_at rules author task turn.found turn.reading → turn.left ≡ after_expiry turn.found turn.reading
done_so rules author (Says answer) turn refusal needs is left = absurd (cc needs)
done_so rules author (Changes ask reply) turn refusal needs is left =
    judged_so (after_expiry turn.found turn.reading) turn.left reply refusal (step rules turn.found turn.reading author ask) is left
done_so rules author (Looks answer) turn refusal needs is left = left

pub refused_so : (rules : Rules) (author : ℕ) (task : Task) (turn : Turn) (refusal : Refusal) → Answers rules author task (Some turn) (Err refusal) → ChangesNothing turn
refused_so rules author task turn refusal answers = elim (answers.1) [
  | inl done ↦ at_expiry turn (done_so rules author task turn refusal answers.0 done.answer done.left)
  | inr ended ↦ cut_so turn ended.left
]

refused_by : (rules : Rules) (author : ℕ) (task : Task) (taken : Option Turn) (result : Result (List ℕ) Refusal) (refusal : Refusal) (turn : Turn) → Answers rules author task taken result → result ≡ Err refusal → taken ≡ Some turn → ChangesNothing turn
refused_by rules author task taken result refusal turn answers is turned =
    refused_so rules author task turn refusal (subst (λ r. Answers rules author task (Some turn) r) is (subst (λ t. Answers rules author task t result) turned answers))

-- ---- one deed

reply_so : (schema : List SchemaNode) (method : _) (body : List ℕ) (deed : Deed) (old new : Service) → IsReply schema method body deed old new → Replies (Answers (rules_in old.port.opened) old.port.author (task_of schema method body) deed.turn) deed
reply_so schema method body deed old new is =
    let by : Answers (rules_in old.port.opened) old.port.author (task_of schema method body) deed.turn is.result = subst (λ t. Answers (rules_in old.port.opened) old.port.author (task_of schema method body) t is.result) (sym is.turned) is.answered.answers in
    record {
      result = is.result;
      by_rules = by;
      says = is.says;
      refused = λ refusal turn err turned. refused_by (rules_in old.port.opened) old.port.author (task_of schema method body) deed.turn is.result refusal turn by err turned;
    }

-- what is said without a turn
ends_so : (deed : Deed) (old new : Service) (said : List Said) (calls : List Served) → IsEnd said → IsPlain said calls deed old new → SaysEnd deed
ends_so deed old new said calls end is = record { says = subst IsEnd (sym is.says) end; no_turn = is.unturned }

refusal_ends : (refusal : Refusal) → IsEnd (told (Err refusal))
refusal_ends refusal = inr (Some refusal, refl)

silent_so : (deed : Deed) (old new : Service) (calls : List Served) → IsPlain [] calls deed old new → (deed.said ≡ []) × (deed.turn ≡ None)
silent_so deed old new calls is = (is.says, is.unturned)

-- a look
look_cuts : (h : List Entry) (now : ℕ) (patterns : List (List Elem)) (look : Result View Refusal) (left : List Entry) → AnswersLook h now patterns look left → IsCutShort h now left
look_cuts h now patterns (Ok view) left is = inr is.1
look_cuts h now patterns (Err DiskFault) left is = is
look_cuts h now patterns (Err NoMemory) left is = is
look_cuts h now patterns (Err refusal) left is = absurd is

looks_so : (schema : List SchemaNode) (deed : Deed) (old new : Service) (call after : CallView) (result : Result (List (List ℕ)) Refusal) (said : List Said) (calls : List Served) → IsTurn schema call after result said calls deed old new → OnlyLooks deed
looks_so schema deed old new call after result said calls is turn turned =
    let looks = is.turns.looks in
    let same : looks.turn ≡ turn = one (sym is.turned ∙ turned) in
    subst ChangesNothing same
    (cut_so looks.turn (look_cuts looks.turn.found looks.turn.reading (patterns_of call.plan.lines) is.turns.look looks.turn.left
    (subst (λ (n : ℕ). AnswersLook looks.turn.found n (patterns_of call.plan.lines) is.turns.look looks.turn.left) (sym looks.reading) looks.answer)))
  where
    one : Some is.turns.looks.turn ≡ Some turn → is.turns.looks.turn ≡ turn
    one both = cc both

module _ (schema : List SchemaNode) (deed : Deed) (old new : Service) where
  begun_so : (plan : Plan) (mode : ListMode) → subscribes.IsBegun schema plan mode deed old new → IsBegun mode deed
  begun_so plan modes.Once is = looks_so schema deed old new (new_call plan) is.after is.result _ _ is.turn
  begun_so plan modes.Other is = ends_so deed old new _ _ (refusal_ends Unsupported) is
  begun_so plan modes.Stream is = ends_so deed old new _ _ (inl refl) is
  begun_so plan modes.Poll is = ends_so deed old new _ _ (inl refl) is

  first_so : (asked : Result SubscribeStep Refusal) → IsFirst schema asked deed old new → IsSubscribed asked deed
  first_so (Ok (Begin plan)) is = begun_so plan plan.mode is
  first_so (Ok Poll) is = absurd is
  first_so (Err refusal) is = record { says = inl is.says; no_turn = is.unturned }

  unturned_mode : (mode : ListMode) → SaysEnd deed → IsBegun mode deed
  unturned_mode modes.Once ends = λ turn turned. absurd (none turn (sym ends.no_turn ∙ turned))
    where
      none : (turn : Turn) → None ≡ Some turn → ⊥
      none turn is = cc is
  unturned_mode modes.Other ends = ends
  unturned_mode modes.Stream ends = ends
  unturned_mode modes.Poll ends = ends

  memory_so : (asked : Result SubscribeStep Refusal) (calls : List Served) → IsPlain (told (Err NoMemory)) calls deed old new → IsSubscribed asked deed
  memory_so (Ok (Begin plan)) calls is = unturned_mode plan.mode (ends_so deed old new _ calls (refusal_ends NoMemory) is)
  memory_so (Ok Poll) calls is = ends_so deed old new _ calls (refusal_ends NoMemory) is
  memory_so (Err refusal) calls is = record { says = inr is.says; no_turn = is.unturned }

  -- what comes after the first message
  module _ (served : Served) (others more : List Served) where
    polled_so : (b : Bool) → IsPolled b served others more deed old new → SaysEnd deed
    polled_so true is = ends_so deed old new _ _ (inl refl) is
    polled_so false is = ends_so deed old new _ _ (refusal_ends BadSubscribe) is

    next_so : (step : Result SubscribeStep Refusal) → IsNext step served others more deed old new → SaysEnd deed
    next_so (Ok Poll) is = polled_so (nat_lt served.polls most_polls) is
    next_so (Ok (Begin plan)) is = absurd is
    next_so (Err refusal) is = ends_so deed old new _ _ (refusal_ends refusal) is

    ending_so : (mode : ListMode) (polls : ℕ) → IsEnding mode polls served others more deed old new → SaysEnd deed
    ending_so modes.Poll zero is = ends_so deed old new _ _ (inr (None, refl)) is
    ending_so modes.Poll (suc polls) is = ends_so deed old new _ _ (inl refl) is
    ending_so modes.Stream polls is = ends_so deed old new _ _ (inl refl) is
    ending_so modes.Once polls is = ends_so deed old new _ _ (inl refl) is
    ending_so modes.Other polls is = ends_so deed old new _ _ (inl refl) is

    heard_so : (what : Later) → IsHeardBy what served others more deed old new → SaysEnd deed
    heard_so (later.Message body) (inl is) = next_so (subscribe_step (Some served.call.plan.mode) body) is
    heard_so (later.Message body) (inr is) = ends_so deed old new _ _ (refusal_ends NoMemory) is
    heard_so (later.Fault refusal) is = ends_so deed old new _ _ (refusal_ends refusal) is
    heard_so later.End is = ending_so served.call.plan.mode served.polls is

    in_mode_so : (mode : ListMode) → IsTurnIn mode schema served others more deed old new → OnlyLooks deed
    in_mode_so modes.Stream is = looks_so schema deed old new served.call is.after is.result _ _ is.turn
    in_mode_so modes.Poll is = looks_so schema deed old new (new_call served.call.plan) is.after is.result _ _ is.turn
    in_mode_so modes.Once is = absurd is
    in_mode_so modes.Other is = absurd is

  answer_so : (asked : Asked) → IsAnswer schema asked deed old new → IsAnsweredTo schema (rules_in old.port.opened) old.port.author asked deed
  answer_so (asks.Call method body) is = reply_so schema method body deed old new is
  answer_so (asks.Subscribe body) (inl is) = first_so (subscribe_step None body) is
  answer_so (asks.Subscribe body) (inr is) = memory_so (subscribe_step None body) old.calls is
  answer_so (asks.Later what) (inl is) = heard_so is.served is.others is.later what is.next
  answer_so (asks.Later what) (inr is) = ends_so deed old new _ _ (inl refl) is.plain
  answer_so (asks.Http status) is = (is.says, is.unturned)
  answer_so (asks.Refused refusal) is = (is.says, is.unturned)

  deed_so : (doing : Doing) → IsDone schema doing deed old new → IsDoneTo schema (rules_in old.port.opened) old.port.author doing deed
  deed_so (Answering asked) is = answer_so asked is
  deed_so (Handing body) is = silent_so deed old new _ is.plain
  deed_so Turning is = in_mode_so is.served is.others is.later is.served.call.plan.mode is.turn
  deed_so Dropping is = silent_so deed old new _ is.plain

-- ---- all of them

abbrev whose : PortView → Opened × ℕ
whose port = (port.opened, port.author)

one_whose : (old new : PortView) (turn : Turn) → TakesOne old turn new → whose new ≡ whose old
one_whose old new turn (inl (result, taken)) = ap whose taken.new_is
one_whose old new turn (inr (result, taken)) = ap whose taken.new_is

moved_whose : (deed : Deed) (old new : PortView) → Moved deed old new → whose new ≡ whose old
moved_whose deed old new (inl still) = ap whose still.same
moved_whose deed old new (inr moved) = one_whose old new moved.turn moved.takes

pub all_answered : (schema : List SchemaNode) (old : Service) (deeds : List Deed) (new : Service) → AreDone schema old deeds new → AllByRecursion (IsAnswered schema (rules_in old.port.opened) old.port.author) deeds
all_answered schema old [] new done = tt
all_answered schema old (deed ∷ deeds) new (next, first, rest) = (
  deed_so schema deed old next deed.doing first,
  subst (λ (w : Opened × ℕ). AllByRecursion (IsAnswered schema (rules_in w.0) w.1) deeds) (moved_whose deed old.port next.port (moves schema deed old next deed.doing first)) (all_answered schema next deeds new rest),
)
