-- What a ONCE call says is a run of a stream.
use Rattle.std.proofs.Common.{◌≡◌, inl, inr, ℕ, List, [], ◌∷◌, ◌++◌, length, true, refl, sym, ap, ◌∙◌, subst, append_assoc, append-nil}
use Rattle.std.specs.Prelude.{Some, Result, Ok, Err, take}
use Rattle.std.specs.List.{AllByRecursion}
use Rattle.std.proofs.Math.Nat.{le_refl}
use Rattle.base_kinds.specs.declared.entry.Entry.{Entry}
use Rattle.base_kinds.specs.declared.entry.View.{View}
use Rattle.base_kinds.specs.declared.refusal.Refusal.{Refusal}
use Rattle.base_kinds.specs.declared.refusal.Refusal.TheVariants.{DiskFault, NoMemory}
use Rattle.base_kinds.specs.declared.request.ListMode.{ListMode}
use Rattle.base_kinds.specs.Events.{view_of}
use Rattle.base_kinds.specs.Schema.{SchemaNode}
use Rattle.book_port.specs.Follows.{Turn}
use Rattle.book_port.specs.Ports.{PortView, LooksOnce, TakesTurn, TakesOne, TakesTurns}
use Rattle.gnmi_kinds.specs.declared.reply.SubReply.{SubReply}
use Rattle.request_desk.specs.declared.subscribe_steps.SubscribeStep.{SubscribeStep}
use Rattle.grpc_requests.specs.declared.request.Asked.TheVariants as asks
use Rattle.sub_plan.specs.declared.plan.Plan.{Plan}
use Rattle.sub_plan.specs.Groups.{patterns_of}
use Rattle.stream_laws.specs.Runs.{IsStreamRun, first_messages, view_at}
use Rattle.stream_laws.specs.Streams.{stream_from}
use Rattle.stream_laws.specs.Follows.{first_moment, started_messages}
use Rattle.stream_laws.proofs.Following.{runs_begin, starts_say, runs_stay}
use Rattle.subscribe_calls.specs.Calls.{CallView, new_call, replies_octets}
use Rattle.subscribe_calls.specs.Turns.{Answers}
use Rattle.session_core.specs.Deeds.{Deed, Doing, Service, IsOnce, IsBegun, IsFirst, IsAnswer, IsDeed, IsDone, AreDone, told, told_all, said_once, turns_in}
use Rattle.session_core.specs.laws.RunLaws.{AsksOnce, SaysState, SaysStateOrEnds}
use Rattle.session_core.proofs.History.{turns_taken}

-- ---- what was seen goes on

turn_goes_on : {T : Type 0} (old new : PortView) (turn : Turn) (result : Result T Refusal) → TakesTurn old turn result new → (more : List Entry) × (new.seen ≡ old.seen ++ more)
turn_goes_on old new turn result taken = (
  taken.begins.others ++ taken.more,
  ap (λ (p : PortView). p.seen) taken.new_is ∙ taken.goes_on ∙ ap (λ (h : List Entry). h ++ taken.more) taken.begins.whole ∙ append_assoc old.seen taken.begins.others taken.more,
)

pub one_goes_on : (old new : PortView) (turn : Turn) → TakesOne old turn new → (more : List Entry) × (new.seen ≡ old.seen ++ more)
one_goes_on old new turn (inl (result, taken)) = turn_goes_on old new turn result taken
one_goes_on old new turn (inr (result, taken)) = turn_goes_on old new turn result taken

pub turns_go_on : (old new : PortView) (turns : List Turn) → TakesTurns old turns new → (more : List Entry) × (new.seen ≡ old.seen ++ more)
turns_go_on old new [] same = ([], ap (λ (p : PortView). p.seen) same ∙ sym (append-nil old.seen))
turns_go_on old new (turn ∷ turns) (next, one, rest) =
    let first = one_goes_on old next turn one in
    let later = turns_go_on next new turns rest in (
      first.0 ++ later.0,
      later.1 ∙ ap (λ (h : List Entry). h ++ later.0) first.1 ∙ append_assoc old.seen first.0 later.0,
    )

-- ---- a turn that was answered

take_whole : {A : Type 0} (items : List A) → take (length items) items ≡ items
take_whole [] = refl
take_whole (item ∷ items) = ap (λ (rest : _). item ∷ rest) (take_whole items)

at_end : (plan : Plan) (h : List Entry) → view_at plan.lines h (length h) ≡ view_of h (patterns_of plan.lines)
at_end plan h = ap (λ (front : List Entry). view_of front (patterns_of plan.lines)) (take_whole h)

module _ (schema : List SchemaNode) (plan : Plan) (h : List Entry) (deed : Deed) (turn : Turn) (taken : deed.turn ≡ Some turn) (more : List Entry) (goes_on : h ≡ turn.left ++ more) where
  pub begins : IsStreamRun plan (first_moment turn.reading (length turn.left)) [] (started_messages plan (view_of turn.left (patterns_of plan.lines))) h
  begins =
      let first = first_moment turn.reading (length turn.left) in
      let view = view_at plan.lines turn.left (length turn.left) in
      let at = runs_stay plan first [] (first_messages plan.updates_only view) turn.left more (stream_from plan turn.reading view) (runs_begin plan turn.left turn.reading (length turn.left) (le_refl (length turn.left))) in
      subst (λ (messages : List SubReply). IsStreamRun plan first [] messages h)
      (sym (starts_say plan view) ∙ ap (started_messages plan) (at_end plan turn.left))
      (subst (λ (h : List Entry). IsStreamRun plan first [] (first_messages plan.updates_only view) h) (sym goes_on) at.run)

  says : (octets : List (List ℕ)) → octets ≡ replies_octets schema plan (started_messages plan (view_of turn.left (patterns_of plan.lines))) → deed.said ≡ told_all octets true → SaysState schema plan h deed
  says octets written told = record {
    turn = turn;
    taken = taken;
    messages = started_messages plan (view_of turn.left (patterns_of plan.lines));
    run = begins;
    told = told ∙ ap (λ (o : List (List ℕ)). told_all o true) written;
  }

-- a look is refused for a fault of the disk, or for want of memory
refused_so : (schema : List SchemaNode) (plan : Plan) (h : List Entry) (deed : Deed) (from to : PortView) (now : ℕ) (refusal : Refusal) → LooksOnce from now (patterns_of plan.lines) (Err refusal) to
    → deed.said ≡ said_once (Err refusal) → SaysStateOrEnds schema plan h deed
refused_so schema plan h deed from to now DiskFault looks told = inr (inl told)
refused_so schema plan h deed from to now NoMemory looks told = inr (inr told)
refused_so schema plan h deed from to now refusal looks told = absurd looks.answer

answered_so : (schema : List SchemaNode) (plan : Plan) (h : List Entry) (deed : Deed) (from to : PortView) (now : ℕ) (call : CallView) (look : Result View Refusal) (result : Result (List (List ℕ)) Refusal)
    → (looks : LooksOnce from now (patterns_of plan.lines) look to) → deed.turn ≡ Some looks.turn → (more : List Entry) → h ≡ looks.turn.left ++ more
    → Answers schema (new_call plan) now look result call → deed.said ≡ said_once result → SaysStateOrEnds schema plan h deed
answered_so schema plan h deed from to now call (Ok view) (Ok octets) looks taken more goes_on answers told =
    inl (says schema plan h deed looks.turn taken more goes_on octets (answers.0 ∙ ap (λ (v : View). replies_octets schema plan (started_messages plan v)) looks.answer.0) told)
answered_so schema plan h deed from to now call (Ok view) (Err NoMemory) looks taken more goes_on answers told = inr (inr told)
answered_so schema plan h deed from to now call (Ok view) (Err refusal) looks taken more goes_on answers told = absurd answers
answered_so schema plan h deed from to now call (Err refusal) (Ok octets) looks taken more goes_on answers told = absurd answers
answered_so schema plan h deed from to now call (Err refusal) (Err other) looks taken more goes_on answers told =
    refused_so schema plan h deed from to now refusal looks (told ∙ ap (λ (r : Refusal). said_once (Err r)) answers.0)

once_so : (schema : List SchemaNode) (plan : Plan) (deed : Deed) (old next : Service) (last : PortView) (more : List Entry) → IsOnce schema plan deed old next → last.seen ≡ next.port.seen ++ more → SaysStateOrEnds schema plan last.seen deed
once_so schema plan deed old next last more is goes_on =
    answered_so schema plan last.seen deed old.port next.port is.turn.now is.after is.turn.turns.look is.result is.turn.turns.looks is.turn.turned more
    (goes_on ∙ ap (λ (p : PortView). p.seen ++ more) is.turn.turns.looks.taken.new_is) is.turn.turns.answers is.turn.says

-- ---- a deed for a ONCE call

asked_so : (schema : List SchemaNode) (plan : Plan) (deed : Deed) (old next : Service) (last : PortView) (more : List Entry) (asks_once : AsksOnce plan deed) → IsAnswer schema (asks.Subscribe asks_once.body) deed old next → last.seen ≡ next.port.seen ++ more
    → SaysStateOrEnds schema plan last.seen deed
asked_so schema plan deed old next last more asks_once (inr plain) goes_on = inr (inr plain.says)
asked_so schema plan deed old next last more asks_once (inl first) goes_on =
    let begun : IsBegun schema plan plan.mode deed old next = subst (λ (s : Result SubscribeStep Refusal). IsFirst schema s deed old next) asks_once.begins first in
    once_so schema plan deed old next last more (subst (λ (m : ListMode). IsBegun schema plan m deed old next) asks_once.once begun) goes_on

one_so : (schema : List SchemaNode) (deed : Deed) (old next : Service) (last : PortView) (more : List Entry) → IsDeed schema deed old next → last.seen ≡ next.port.seen ++ more
    → (plan : Plan) → AsksOnce plan deed → SaysStateOrEnds schema plan last.seen deed
one_so schema deed old next last more is goes_on plan asks_once =
    asked_so schema plan deed old next last more asks_once (subst (λ (doing : Doing). IsDone schema doing deed old next) asks_once.asked is) goes_on

pub once_calls : (schema : List SchemaNode) (old last : Service) (deeds : List Deed) → AreDone schema old deeds last
    → AllByRecursion (λ deed. (plan : Plan) → AsksOnce plan deed → SaysStateOrEnds schema plan last.port.seen deed) deeds
once_calls schema old last [] is = tt
once_calls schema old last (deed ∷ deeds) (next, is, rest) =
    let later = turns_go_on next.port last.port (turns_in deeds) (turns_taken schema next last deeds rest) in
    (one_so schema deed old next last.port later.0 is later.1, once_calls schema next last deeds rest)
