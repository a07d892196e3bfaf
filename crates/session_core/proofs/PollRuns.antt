-- What each turn of a call of mode POLL says is a run of its stream with that turn alone.
use Rattle.std.proofs.Common.{◌≡◌, ◌⊎◌, inl, inr, ℕ, ◌==◌, List, [], ◌∷◌, ◌++◌, Bool, true, false, ◌&&◌, cond, refl, sym, ap, ◌∙◌, subst, Option, Some, None, Result, Ok, Err}
use Rattle.std.specs.Prelude.{if◌then◌else◌}
use Rattle.std.specs.List.{AllByRecursion}
use Rattle.std.proofs.lemmas.Bool.{eq-eqb, false≢true}
use Rattle.base_kinds.specs.declared.entry.Entry.{Entry}
use Rattle.base_kinds.specs.declared.entry.View.{View}
use Rattle.base_kinds.specs.declared.refusal.Refusal.{Refusal}
use Rattle.base_kinds.specs.declared.refusal.Refusal.TheVariants.{DiskFault, NoMemory}
use Rattle.base_kinds.specs.declared.request.ListMode.{ListMode}
use Rattle.base_kinds.specs.declared.request.ListMode.TheVariants as modes
use Rattle.base_kinds.specs.Events.{view_of}
use Rattle.base_kinds.specs.Schema.{SchemaNode}
use Rattle.book_port.specs.Follows.{Turn}
use Rattle.book_port.specs.Ports.{PortView, LooksOnce}
use Rattle.request_desk.specs.declared.subscribe_steps.SubscribeStep.{SubscribeStep}
use Rattle.grpc_requests.specs.declared.request.Asked.{Asked}
use Rattle.grpc_requests.specs.declared.request.Asked.TheVariants as asks
use Rattle.stream_laws.specs.Follows.{started_messages}
use Rattle.sub_plan.specs.declared.plan.Plan.{Plan}
use Rattle.sub_plan.specs.Groups.{patterns_of}
use Rattle.subscribe_calls.specs.Calls.{CallView, new_call, replies_octets}
use Rattle.subscribe_calls.specs.Turns.{Answers}
use Rattle.session_core.specs.declared.served.Served.{Served}
use Rattle.session_core.specs.Deeds.{Deed, Doing, Answering, Handing, Turning, Dropping, Service, IsAnswer, IsBegun, IsFirst, IsPlain, IsCallTurn, IsTurnIn, IsDone, AreDone, is_last_poll, kept_polled, new_served, others_than, said_polled, told, told_all, turns_in}
use Rattle.session_core.specs.Rounds.{is_turn}
use Rattle.session_core.specs.laws.PollLaws.{AsksPoll, IsTurnOn, SaysPolled, SaysPolledOrEnds}
use Rattle.session_core.specs.laws.StreamLaws.{IsFirstMessage, NoneBegins}
use Rattle.session_core.proofs.History.{turns_taken}
use Rattle.session_core.proofs.Apart.{calls_on, elsewhere, is_it, left_there, none_of_others, on-append, one_left, with_one}
use Rattle.session_core.proofs.Keeping.{calls_in, changes}
use Rattle.session_core.proofs.OnceRuns.{begins, turns_go_on}
use Rattle.session_core.proofs.StreamRuns.{Fate, fate, no_turn, on_there, over_stays}

-- ---- one turn

says : (schema : List SchemaNode) (plan : Plan) (deed : Deed) (last : Bool) (h : List Entry) (turn : Turn) → deed.turn ≡ Some turn → (more : List Entry) → h ≡ turn.left ++ more → (octets : List (List ℕ))
    → octets ≡ replies_octets schema plan (started_messages plan (view_of turn.left (patterns_of plan.lines))) → deed.said ≡ told_all octets last → SaysPolled schema plan h deed
says schema plan deed last h turn taken more goes_on octets written told = record {
  turn = turn;
  taken = taken;
  messages = started_messages plan (view_of turn.left (patterns_of plan.lines));
  run = begins schema plan h deed turn taken more goes_on;
  last = last;
  told = told ∙ ap (λ (o : List (List ℕ)). told_all o last) written;
}

-- a look is refused for a fault of the disk, or for want of memory
refused_so : (schema : List SchemaNode) (plan : Plan) (h : List Entry) (deed : Deed) (from to : PortView) (now : ℕ) (served : Served) (left : ℕ) (refusal : Refusal) → LooksOnce from now (patterns_of plan.lines) (Err refusal) to
    → deed.said ≡ said_polled (Err refusal) served left → SaysPolledOrEnds schema plan h deed
refused_so schema plan h deed from to now served left DiskFault looks told = inr (inl told)
refused_so schema plan h deed from to now served left NoMemory looks told = inr (inr told)
refused_so schema plan h deed from to now served left refusal looks told = absurd looks.answer

answered_so : (schema : List SchemaNode) (plan : Plan) (h : List Entry) (deed : Deed) (from to : PortView) (now : ℕ) (served : Served) (left : ℕ) (call : CallView) (look : Result View Refusal) (result : Result (List (List ℕ)) Refusal)
    → (looks : LooksOnce from now (patterns_of plan.lines) look to) → deed.turn ≡ Some looks.turn → (more : List Entry) → h ≡ looks.turn.left ++ more
    → Answers schema (new_call plan) now look result call → deed.said ≡ said_polled result served left → SaysPolledOrEnds schema plan h deed
answered_so schema plan h deed from to now served left call (Ok view) (Ok octets) looks taken more goes_on answers told =
    inl (says schema plan deed (is_last_poll served left) h looks.turn taken more goes_on octets (answers.0 ∙ ap (λ (v : View). replies_octets schema plan (started_messages plan v)) looks.answer.0) told)
answered_so schema plan h deed from to now served left call (Ok view) (Err NoMemory) looks taken more goes_on answers told = inr (inr told)
answered_so schema plan h deed from to now served left call (Ok view) (Err refusal) looks taken more goes_on answers told = absurd answers
answered_so schema plan h deed from to now served left call (Err refusal) (Ok octets) looks taken more goes_on answers told = absurd answers
answered_so schema plan h deed from to now served left call (Err refusal) (Err other) looks taken more goes_on answers told =
    refused_so schema plan h deed from to now served left refusal looks (told ∙ ap (λ (r : Refusal). said_polled (Err r) served left) answers.0)

-- ---- no turn

quiet : (b : Bool) (doing : Doing) → is_turn doing ≡ false → (b && is_turn doing) ≡ true → ⊥
quiet true doing off is = false≢true (sym off ∙ is)
quiet false doing off is = false≢true is

elsewhere_quiet : (b other : Bool) → b ≡ false → (b && other) ≡ true → ⊥
elsewhere_quiet b other off is = false≢true (sym (ap (λ (v : Bool). v && other) off) ∙ is)

module _ (schema : List SchemaNode) (plan : Plan) (polls : plan.mode ≡ modes.Poll) (s : ℕ) where
  -- a call with this plan is served on the stream
  record HasPlan (calls : List Served) : Type 0 where
    call : Served
    one : calls_on s calls ≡ call ∷ []
    plan_is : call.call.plan ≡ plan

  -- that, or none
  abbrev Stays : List Served → Type 0
  Stays calls = (calls_on s calls ≡ []) ⊎ HasPlan calls

  -- ---- one deed

  record Steps (deed : Deed) (doing : Doing) (next : Service) (last : PortView) : Type 0 where
    says_so : (deed.stream == s && is_turn doing) ≡ true → SaysPolledOrEnds schema plan last.seen deed
    stays : Stays next.calls

  kept_so : (c : Served) (left : ℕ) (result : Result (List (List ℕ)) Refusal) (calls : List Served) → c.call.plan ≡ plan → (c.stream == s) ≡ true → calls_on s calls ≡ calls_on s (kept_polled result c left) → Stays calls
  kept_so c left (Err refusal) calls plan_is on is = inl is
  kept_so c left (Ok messages) calls plan_is on is = by_last (is_last_poll c left) is
    where
      by_last : (b : Bool) → calls_on s calls ≡ calls_on s (if b then [] else record c { polls = left } ∷ []) → Stays calls
      by_last true whole = inl whole
      by_last false whole = inr (record {
        call = record c { polls = left };
        one = whole ∙ ap (λ (b : Bool). cond b (record c { polls = left } ∷ []) []) on;
        plan_is = plan_is;
      })

  module _ (deed : Deed) (old next : Service) (last : PortView) (more : List Entry) (goes_on : last.seen ≡ next.port.seen ++ more) (c : Served) (mine : calls_on s old.calls ≡ c ∷ []) (plan_is : c.call.plan ≡ plan) where
    goes : (k : Served) → calls_on s next.calls ≡ k ∷ [] → k.call ≡ c.call → Stays next.calls
    goes k one same = inr (record { call = k; one = one; plan_is = ap (λ (call : CallView). call.plan) same ∙ plan_is })

    same_calls : next.calls ≡ old.calls → Stays next.calls
    same_calls same = goes c (ap (calls_on s) same ∙ mine) refl

    module _ (on : (deed.stream == s) ≡ true) where
      dropped : (others after : List Served) (found : Served) → old.calls ≡ others ++ found ∷ after → found.stream ≡ deed.stream → next.calls ≡ others ++ after → Stays next.calls
      dropped others after found among at left =
          let it = is_it s deed old.calls others after c found among at on mine in
          inl (ap (calls_on s) left ∙ on-append s others after ∙ ap (λ (l : List Served). l ++ calls_on s after) it.before ∙ it.behind)

      by_fate : (others after : List Served) (found : Served) → old.calls ≡ others ++ found ∷ after → found.stream ≡ deed.stream → Fate found others after old.calls next.calls → Stays next.calls
      by_fate others after found among at (inl same) = same_calls same
      by_fate others after found among at (inr (inl left)) = dropped others after found among at left
      by_fate others after found among at (inr (inr k)) =
          let it = is_it s deed old.calls others after c found among at on mine in
          goes k.call (ap (calls_on s) k.whole ∙ left_there s others (k.call ∷ []) after it.before it.behind ∙ one_left s deed.stream k.call (k.on ∙ at) on)
          (k.same ∙ ap (λ (d : Served). d.call) it.same)

      answers : (asked : Asked) → IsAnswer schema asked deed old next → (IsFirstMessage (Answering asked) → (deed.stream == s) ≡ false) → Stays next.calls
      answers (asks.Call method body) is first = same_calls is.calls_are
      answers (asks.Subscribe body) is first = absurd (false≢true (sym (first tt) ∙ on))
      answers (asks.Later what) (inl is) first = by_fate is.others is.later is.served is.among.whole is.among.on (fate is.served is.others is.later deed old next what is.next)
      answers (asks.Later what) (inr is) first = same_calls (calls_in [] old.calls deed old next is.plain)
      answers (asks.Http status) is first = same_calls (calls_in _ old.calls deed old next is)
      answers (asks.Refused refusal) is first = same_calls (calls_in _ old.calls deed old next is)

      turn_in : (found : Served) (others after : List Served) (mode : ListMode) → found.call.plan.mode ≡ mode → found ≡ c → calls_on s others ≡ [] → calls_on s after ≡ [] → IsTurnIn mode schema found others after deed old next
          → SaysPolledOrEnds schema plan last.seen deed × Stays next.calls
      turn_in found others after modes.Poll in_mode same before behind is =
          let t = is.turn in
          let found_plan : found.call.plan ≡ plan = ap (λ (d : Served). d.call.plan) same ∙ plan_is in (
            subst (λ (p : Plan). SaysPolledOrEnds schema p last.seen deed) found_plan
                (answered_so schema found.call.plan last.seen deed old.port next.port t.now found is.left is.after t.turns.look is.result t.turns.looks t.turned more
                (goes_on ∙ ap (λ (p : PortView). p.seen ++ more) t.turns.looks.taken.new_is) t.turns.answers t.says),
            kept_so found is.left is.result next.calls found_plan (ap (λ (d : Served). d.stream == s) same ∙ on_there s old.calls c [] mine)
                (ap (calls_on s) t.calls_are ∙ left_there s others (kept_polled is.result found is.left) after before behind),
          )
      turn_in found others after modes.Stream in_mode same before behind is =
          let other : modes.Stream ≡ modes.Poll = sym in_mode ∙ ap (λ (d : Served). d.call.plan.mode) same ∙ ap (λ (p : Plan). p.mode) plan_is ∙ polls in absurd cc
      turn_in found others after modes.Once in_mode same before behind is = absurd is
      turn_in found others after modes.Other in_mode same before behind is = absurd is

      turns : IsCallTurn schema deed old next → SaysPolledOrEnds schema plan last.seen deed × Stays next.calls
      turns is =
          let it = is_it s deed old.calls is.others is.later c is.served is.among.whole is.among.on on mine in
          turn_in is.served is.others is.later is.served.call.plan.mode refl it.same it.before it.behind is.turn

    step : (b : Bool) (doing : Doing) → (deed.stream == s) ≡ b → deed.doing ≡ doing → IsDone schema doing deed old next → (IsFirstMessage doing → (deed.stream == s) ≡ false) → Steps deed doing next last
    step false doing off at is first = record {
      says_so = λ turn. absurd (elsewhere_quiet (deed.stream == s) (is_turn doing) off turn);
      stays = goes c (elsewhere s deed old.calls next.calls (changes schema deed old next doing at is) off ∙ mine) refl;
    }
    step true (Answering asked) on at is first = record {
      says_so = λ turn. absurd (quiet (deed.stream == s) (Answering asked) refl turn);
      stays = answers on asked is first;
    }
    step true (Handing body) on at is first = record {
      says_so = λ turn. absurd (quiet (deed.stream == s) (Handing body) refl turn);
      stays = same_calls (calls_in [] old.calls deed old next is.plain);
    }
    step true Turning on at is first = let turned = turns on is in record { says_so = λ turn. turned.0; stays = turned.1 }
    step true Dropping on at is first = record {
      says_so = λ turn. absurd (quiet (deed.stream == s) Dropping refl turn);
      stays = dropped on is.others is.later is.served is.among.whole is.among.on (calls_in [] _ deed old next is.plain);
    }

  any_step : (deed : Deed) (old next : Service) (last : PortView) (more : List Entry) → last.seen ≡ next.port.seen ++ more → IsDone schema deed.doing deed old next → (IsFirstMessage deed.doing → (deed.stream == s) ≡ false) → Stays old.calls → Steps deed deed.doing next last
  any_step deed old next last more goes_on is first (inl none) = record {
    says_so = λ turn. absurd (false≢true (sym (no_turn schema s (deed.stream == s) deed deed.doing old next refl is none) ∙ turn));
    stays = inl (over_stays s (deed.stream == s) deed old.calls next.calls refl (changes schema deed old next deed.doing refl is) first none);
  }
  any_step deed old next last more goes_on is first (inr has) = step deed old next last more goes_on has.call has.one has.plan_is (deed.stream == s) deed.doing refl refl is first

  -- ---- all of them

  all_say : (old : Service) (deeds : List Deed) (last : Service) → AreDone schema old deeds last → NoneBegins s deeds → Stays old.calls → AllByRecursion (λ (deed : Deed). IsTurnOn s deed → SaysPolledOrEnds schema plan last.port.seen deed) deeds
  all_say old [] last done first stays = tt
  all_say old (deed ∷ deeds) last (next, one, rest) first stays =
      let later = turns_go_on next.port last.port (turns_in deeds) (turns_taken schema next last deeds rest) in
      let here = any_step deed old next last.port later.0 later.1 one first.0 stays in
      (here.says_so, all_say next deeds last rest first.1 here.stays)

-- ---- from its beginning on

module _ (schema : List SchemaNode) (plan : Plan) (deed : Deed) (asks_poll : AsksPoll plan deed) where
  module _ (old next last : Service) (after : List Deed) (rest : AreDone schema next after last) (first : NoneBegins deed.stream after) (none : calls_on deed.stream old.calls ≡ []) where
    begun : IsPlain [] (others_than deed.stream old.calls ++ new_served deed.stream plan ∷ []) deed old next → Stays schema plan asks_poll.polls deed.stream next.calls
    begun is =
        let on : (deed.stream == deed.stream) ≡ true = eq-eqb deed.stream deed.stream refl in
        inr (record {
          call = new_served deed.stream plan;
          one = ap (calls_on deed.stream) (calls_in [] _ deed old next is) ∙ with_one deed.stream true (others_than deed.stream old.calls) [] (new_served deed.stream plan) on
              ∙ ap (λ (l : List Served). l ++ new_served deed.stream plan ∷ []) (none_of_others deed.stream old.calls);
          plan_is = refl;
        })

    answered : IsAnswer schema (asks.Subscribe asks_poll.body) deed old next → Stays schema plan asks_poll.polls deed.stream next.calls
    answered (inr is) = inl (ap (calls_on deed.stream) (calls_in _ old.calls deed old next is) ∙ none)
    answered (inl is) =
        let step_is = subst (λ (r : Result SubscribeStep Refusal). IsFirst schema r deed old next) asks_poll.begins is in
        begun (subst (λ (m : ListMode). IsBegun schema plan m deed old next) asks_poll.polls step_is)

  pub polls_from_there : (old : Service) (before after : List Deed) (last : Service) → AreDone schema old (before ++ deed ∷ after) last → NoneBegins deed.stream before → NoneBegins deed.stream after → calls_on deed.stream old.calls ≡ []
      → AllByRecursion (λ (later : Deed). IsTurnOn deed.stream later → SaysPolledOrEnds schema plan last.port.seen later) after
  polls_from_there old [] after last (next, one, rest) first later none =
      all_say schema plan asks_poll.polls deed.stream next after last rest later (answered old next last after rest later none (subst (λ (doing : Doing). IsDone schema doing deed old next) asks_poll.asked one))
  polls_from_there old (d ∷ before) after last (next, one, rest) first later none =
      polls_from_there next before after last rest first.1 later
      (over_stays deed.stream (d.stream == deed.stream) d old.calls next.calls refl (changes schema d old next d.doing refl one) first.0 none)
