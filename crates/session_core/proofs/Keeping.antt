-- What a deed does to the calls that are served: nothing, one begins, or one is changed or gone.
use Rattle.std.proofs.Common.{◌≡◌, ◌⊎◌, inl, inr, ℕ, zero, suc, ◌==◌, List, [], ◌∷◌, ◌++◌, Bool, true, false, nat_lt, cond, refl, sym, ap, ◌∙◌, subst, append-nil, Some, None, Result, Ok, Err}
use Rattle.std.specs.List.{AllByRecursion}
use Rattle.base_kinds.specs.declared.refusal.Refusal.{Refusal}
use Rattle.base_kinds.specs.declared.refusal.Refusal.TheVariants.{DiskFault}
use Rattle.base_kinds.specs.declared.request.ListMode.{ListMode}
use Rattle.base_kinds.specs.declared.request.ListMode.TheVariants as modes
use Rattle.base_kinds.specs.Schema.{SchemaNode}
use Rattle.h2_events.specs.declared.said.Said.{Said}
use Rattle.request_desk.specs.Subscribes.{subscribe_step}
use Rattle.request_desk.specs.declared.subscribe_steps.SubscribeStep.{SubscribeStep}
use Rattle.request_desk.specs.declared.subscribe_steps.SubscribeStep.TheVariants.{Begin, Poll}
use Rattle.grpc_requests.specs.declared.request.Asked.{Asked}
use Rattle.grpc_requests.specs.declared.request.Asked.TheVariants as asks
use Rattle.grpc_requests.specs.declared.request.Later.{Later}
use Rattle.grpc_requests.specs.declared.request.Later.TheVariants as later
use Rattle.grpc_requests.specs.declared.request.Request.{Request}
use Rattle.sub_plan.specs.declared.plan.Plan.{Plan}
use Rattle.subscribe_calls.specs.Calls.{CallView}
use Rattle.session_core.specs.laws.StreamLaws.{IsFirstMessage}
use Rattle.session_core.specs.declared.served.Served.{Served}
use Rattle.session_core.specs.Deeds.{Deed, Doing, Answering, Handing, Turning, Dropping, Service, IsAmong, IsPlain, IsTurnIn, IsBegun, IsFirst, IsPolled, IsNext, IsEnding, IsHeardBy, IsAnswer, IsDone, AreDone, asked_in, requests_in, kept_streaming, kept_polled, others_than, is_last_poll, most_polls}

pub all_both : {X : Type 0} (P : X → Type 0) (xs ys : List X) → AllByRecursion P xs → AllByRecursion P ys → AllByRecursion P (xs ++ ys)
all_both P [] ys p q = q
all_both P (x ∷ xs) ys p q = (p.0, all_both P xs ys p.1 q)

pub all_first : {X : Type 0} (P : X → Type 0) (xs ys : List X) → AllByRecursion P (xs ++ ys) → AllByRecursion P xs
all_first P [] ys p = tt
all_first P (x ∷ xs) ys p = (p.0, all_first P xs ys p.1)

pub all_last : {X : Type 0} (P : X → Type 0) (xs ys : List X) → AllByRecursion P (xs ++ ys) → AllByRecursion P ys
all_last P [] ys p = p
all_last P (x ∷ xs) ys p = all_last P xs ys p.1

-- ---- one deed

pub record Begins (deed : Deed) (old new : List Served) : Type 0 where
  pub first : IsFirstMessage deed.doing
  pub call : Served
  pub on : call.stream ≡ deed.stream
  pub whole : new ≡ others_than deed.stream old ++ call ∷ []

pub record Edits (deed : Deed) (old new : List Served) : Type 0 where
  pub others : List Served
  pub call : Served
  pub more : List Served
  pub among : old ≡ others ++ call ∷ more
  pub on : call.stream ≡ deed.stream
  pub left : List Served
  pub few : (left ≡ []) ⊎ ((k : Served) × (left ≡ k ∷ []))
  pub on_it : AllByRecursion (λ (c : Served). c.stream ≡ deed.stream) left
  pub whole : new ≡ others ++ left ++ more

abbrev pub Changes : Deed → List Served → List Served → Type 0
Changes deed old new = (new ≡ old) ⊎ Begins deed old new ⊎ Edits deed old new

pub calls_in : (said : List Said) (calls : List Served) (deed : Deed) (old new : Service) → IsPlain said calls deed old new → new.calls ≡ calls
calls_in said calls deed old new is = ap (λ (s : Service). s.calls) is.new_is

module _ (schema : List SchemaNode) (deed : Deed) (old new : Service) where
  stays : (said : List Said) → IsPlain said old.calls deed old new → Changes deed old.calls new.calls
  stays said is = inl (calls_in said old.calls deed old new is)

  begun : (plan : Plan) (mode : ListMode) → IsFirstMessage deed.doing → IsBegun schema plan mode deed old new → Changes deed old.calls new.calls
  begun plan modes.Once first is = inl is.turn.calls_are
  begun plan modes.Other first is = stays _ is
  begun plan modes.Stream first is = inr (inl (record { first = first; call = _; on = refl; whole = calls_in [] _ deed old new is }))
  begun plan modes.Poll first is = inr (inl (record { first = first; call = _; on = refl; whole = calls_in [] _ deed old new is }))

  first_step : (step : Result SubscribeStep Refusal) → IsFirstMessage deed.doing → IsFirst schema step deed old new → Changes deed old.calls new.calls
  first_step (Ok (Begin plan)) first is = begun plan plan.mode first is
  first_step (Ok Poll) first is = absurd is
  first_step (Err refusal) first is = stays _ is

  module _ (served : Served) (others more : List Served) (among : IsAmong deed.stream served others more old.calls) where
    edits : (left : List Served) → ((left ≡ []) ⊎ ((k : Served) × (left ≡ k ∷ []))) → AllByRecursion (λ (c : Served). c.stream ≡ served.stream) left → new.calls ≡ others ++ left ++ more → Changes deed old.calls new.calls
    edits left few on whole = inr (inr (record {
      others = others;
      call = served;
      more = more;
      among = among.whole;
      on = among.on;
      left = left;
      few = few;
      on_it = subst (λ (s : ℕ). AllByRecursion (λ (c : Served). c.stream ≡ s) left) among.on on;
      whole = whole;
    }))

    dropped : (said : List Said) → IsPlain said (others ++ more) deed old new → Changes deed old.calls new.calls
    dropped said is = edits [] (inl refl) tt (calls_in said (others ++ more) deed old new is ∙ ap (λ (front : List Served). front ++ more) (sym (append-nil others)))

    polled : (b : Bool) → IsPolled b served others more deed old new → Changes deed old.calls new.calls
    polled true is = edits (_ ∷ []) (inr (_, refl)) (refl, tt) (calls_in [] _ deed old new is)
    polled false is = dropped _ is

    next : (step : Result SubscribeStep Refusal) → IsNext step served others more deed old new → Changes deed old.calls new.calls
    next (Ok Poll) is = polled (nat_lt served.polls most_polls) is
    next (Ok (Begin plan)) is = absurd is
    next (Err refusal) is = dropped _ is

    ending : (mode : ListMode) (polls : ℕ) → IsEnding mode polls served others more deed old new → Changes deed old.calls new.calls
    ending modes.Poll zero is = dropped _ is
    ending modes.Poll (suc polls) is = edits (_ ∷ []) (inr (_, refl)) (refl, tt) (calls_in [] _ deed old new is)
    ending modes.Stream polls is = stays [] is
    ending modes.Once polls is = stays [] is
    ending modes.Other polls is = stays [] is

    heard_by : (what : Later) → IsHeardBy what served others more deed old new → Changes deed old.calls new.calls
    heard_by (later.Message body) (inl is) = next (subscribe_step (Some served.call.plan.mode) body) is
    heard_by (later.Message body) (inr is) = dropped _ is
    heard_by (later.Fault refusal) is = dropped _ is
    heard_by later.End is = ending served.call.plan.mode served.polls is

    streaming : (result : Result (List (List ℕ)) Refusal) (after : CallView) → AllByRecursion (λ (c : Served). c.stream ≡ served.stream) (kept_streaming result served after)
    streaming (Ok messages) after = (refl, tt)
    streaming (Err DiskFault) after = (refl, tt)
    streaming (Err refusal) after = tt

    polling_if : (b : Bool) (left : ℕ) → AllByRecursion (λ (c : Served). c.stream ≡ served.stream) (cond b [] (record served { polls = left } ∷ []))
    polling_if true left = tt
    polling_if false left = (refl, tt)

    polling : (result : Result (List (List ℕ)) Refusal) (left : ℕ) → AllByRecursion (λ (c : Served). c.stream ≡ served.stream) (kept_polled result served left)
    polling (Ok messages) left = polling_if (is_last_poll served left) left
    polling (Err refusal) left = tt

    few_streaming : (result : Result (List (List ℕ)) Refusal) (after : CallView) → (kept_streaming result served after ≡ []) ⊎ ((k : Served) × (kept_streaming result served after ≡ k ∷ []))
    few_streaming (Ok messages) after = inr (_, refl)
    few_streaming (Err DiskFault) after = inr (_, refl)
    few_streaming (Err refusal) after = inl refl

    few_polling_if : (b : Bool) (left : ℕ) → (cond b [] (record served { polls = left } ∷ []) ≡ []) ⊎ ((k : Served) × (cond b [] (record served { polls = left } ∷ []) ≡ k ∷ []))
    few_polling_if true left = inl refl
    few_polling_if false left = inr (_, refl)

    few_polling : (result : Result (List (List ℕ)) Refusal) (left : ℕ) → (kept_polled result served left ≡ []) ⊎ ((k : Served) × (kept_polled result served left ≡ k ∷ []))
    few_polling (Ok messages) left = few_polling_if (is_last_poll served left) left
    few_polling (Err refusal) left = inl refl

    turned : (mode : ListMode) → IsTurnIn mode schema served others more deed old new → Changes deed old.calls new.calls
    turned modes.Stream is = edits (kept_streaming is.result served is.after) (few_streaming is.result is.after) (streaming is.result is.after) is.turn.calls_are
    turned modes.Poll is = edits (kept_polled is.result served is.left) (few_polling is.result is.left) (polling is.result is.left) is.turn.calls_are
    turned modes.Once is = absurd is
    turned modes.Other is = absurd is

  answered : (asked : Asked) → deed.doing ≡ Answering asked → IsAnswer schema asked deed old new → Changes deed old.calls new.calls
  answered (asks.Call method body) at is = inl is.calls_are
  answered (asks.Subscribe body) at (inl is) = first_step (subscribe_step None body) (subst IsFirstMessage (sym at) tt) is
  answered (asks.Subscribe body) at (inr is) = stays _ is
  answered (asks.Later what) at (inl is) = heard_by is.served is.others is.later is.among what is.next
  answered (asks.Later what) at (inr is) = stays [] is.plain
  answered (asks.Http status) at is = stays _ is
  answered (asks.Refused refusal) at is = stays _ is

  pub changes : (doing : Doing) → deed.doing ≡ doing → IsDone schema doing deed old new → Changes deed old.calls new.calls
  changes (Answering asked) at is = answered asked at is
  changes (Handing body) at is = stays [] is.plain
  changes Turning at is = turned is.served is.others is.later is.among is.served.call.plan.mode is.turn
  changes Dropping at is = dropped is.served is.others is.later is.among [] is.plain

-- ---- something that holds of the streams of all calls

module _ (P : ℕ → Type 0) where
  abbrev pub All : List Served → Type 0
  All calls = AllByRecursion (λ (c : Served). P c.stream) calls

  all_on : (stream : ℕ) (calls : List Served) → P stream → AllByRecursion (λ (c : Served). c.stream ≡ stream) calls → All calls
  all_on stream [] p on = tt
  all_on stream (c ∷ calls) p on = (subst P (sym on.0) p, all_on stream calls p on.1)

  all_others : (stream : ℕ) (calls : List Served) → All calls → All (others_than stream calls)
  all_others stream [] all = tt
  all_others stream (c ∷ calls) all = by_test (c.stream == stream) (all_others stream calls all.1) where
    by_test : (b : Bool) → All (others_than stream calls) → All (cond b (others_than stream calls) (c ∷ others_than stream calls))
    by_test true rest = rest
    by_test false rest = (all.0, rest)

  one_among : (others more : List Served) (call : Served) → All (others ++ call ∷ more) → P call.stream
  one_among others more call all = (all_last (λ (c : Served). P c.stream) others (call ∷ more) all).0

  pub calls_keep : (deed : Deed) (old new : List Served) → Changes deed old new → (IsFirstMessage deed.doing → P deed.stream) → All old → All new
  calls_keep deed old new (inl same) first all = subst All (sym same) all
  calls_keep deed old new (inr (inl b)) first all =
      subst All (sym b.whole) (all_both (λ (c : Served). P c.stream) (others_than deed.stream old) (b.call ∷ []) (all_others deed.stream old all) (subst P (sym b.on) (first b.first), tt))
  calls_keep deed old new (inr (inr e)) first all =
      let whole = subst All e.among all in
      let on : P deed.stream = subst P e.on (one_among e.others e.more e.call whole) in
      subst All (sym e.whole)
      (all_both (λ (c : Served). P c.stream) (e.others ++ e.left) e.more (all_both (λ (c : Served). P c.stream) e.others e.left (all_first (λ (c : Served). P c.stream) e.others (e.call ∷ e.more) whole) (all_on deed.stream e.left on e.on_it))
      (all_last (λ (c : Served). P c.stream) e.others (e.call ∷ e.more) whole).1)

  -- a deed is done on a stream of which something was asked, or of a call that is served
  done_on : (schema : List SchemaNode) (deed : Deed) (old new : Service) (doing : Doing) → IsDone schema doing deed old new → AllByRecursion (λ (r : Request). P r.stream) (asked_in deed.stream doing) → All old.calls → P deed.stream
  done_on schema deed old new (Answering asked) is asks all = asks.0
  done_on schema deed old new (Handing body) is asks all = asks.0
  done_on schema deed old new Turning is asks all = subst P is.among.on (one_among is.others is.later is.served (subst All is.among.whole all))
  done_on schema deed old new Dropping is asks all = subst P is.among.on (one_among is.others is.later is.served (subst All is.among.whole all))

  pub deeds_keep : (schema : List SchemaNode) (old : Service) (deeds : List Deed) (new : Service) → AreDone schema old deeds new → AllByRecursion (λ (r : Request). P r.stream) (requests_in deeds) → All old.calls
      → AllByRecursion (λ (d : Deed). P d.stream) deeds × All new.calls
  deeds_keep schema old [] new same asks all = (tt, subst (λ (s : Service). All s.calls) (sym same) all)
  deeds_keep schema old (deed ∷ deeds) new (next, first, rest) asks all =
      let mine = asked_in deed.stream deed.doing in
      let on = done_on schema deed old next deed.doing first (all_first (λ (r : Request). P r.stream) mine (requests_in deeds) asks) all in
      let others = deeds_keep schema next deeds new rest (all_last (λ (r : Request). P r.stream) mine (requests_in deeds) asks)
      (calls_keep deed old.calls next.calls (changes schema deed old next deed.doing refl first) (λ f. on) all) in
      ((on, others.0), others.1)
