-- Whose turns are taken, and which calls are handed over.
use Rattle.std.proofs.Common.{◌≡◌, ◌⊎◌, inl, inr, ℕ, ◌==◌, List, [], ◌∷◌, ◌++◌, Bool, true, false, refl, sym, ap, ◌∙◌, subst, append_assoc, map, None, Option, Result, Ok, Err}
use Rattle.std.specs.Prelude.{if◌then◌else◌}
use Rattle.std.specs.List.{AllByRecursion}
use Rattle.base_kinds.specs.declared.refusal.Refusal.{Refusal}
use Rattle.base_kinds.specs.declared.request.ListMode.{ListMode}
use Rattle.base_kinds.specs.declared.request.ListMode.TheVariants as modes
use Rattle.base_kinds.specs.Schema.{SchemaNode}
use Rattle.book_port.specs.Ports.{PortView}
use Rattle.grpc_requests.specs.declared.request.Asked.{Asked}
use Rattle.grpc_requests.specs.declared.request.Asked.TheVariants as asks
use Rattle.h2_send.specs.Inputs.{Input}
use Rattle.request_desk.specs.Subscribes.{subscribe_step}
use Rattle.request_desk.specs.declared.subscribe_steps.SubscribeStep.{SubscribeStep}
use Rattle.request_desk.specs.declared.subscribe_steps.SubscribeStep.TheVariants.{Begin, Poll}
use Rattle.session_core.specs.declared.served.Served.{Served}
use Rattle.session_core.specs.Deeds.{Deed, Doing, Answering, Dropping, Handing, Turning, Service, IsAnswer, IsDone, IsFirst, AreDone, handed_in, new_served, others_than}
use Rattle.session_core.specs.Deeds as subscribes
use Rattle.session_core.specs.FeederRuns.{ServesCall}
use Rattle.session_core.specs.laws.PollLaws.{AsksPoll}
use Rattle.session_core.specs.laws.StreamLaws.{AsksStream, IsFirstMessage}
use Rattle.session_core.proofs.Keeping.{Changes, calls_in, changes}
use Rattle.stream_workers.specs.Feeders.{Feeder, is_fed, streams_of}
use Rattle.sub_plan.specs.declared.plan.Plan.{Plan}
use Rattle.program.specs.headline.Connections.{HasBegun, Subscriber, WasHandedOver}

-- ---- calls that were begun

more_begun : (stream : ℕ) (deeds more : List Deed) → HasBegun stream deeds → HasBegun stream (deeds ++ more)
more_begun stream deeds more begun = record {
  before = begun.before;
  deed = begun.deed;
  after = begun.after ++ more;
  among = ap (λ (l : List Deed). l ++ more) begun.among ∙ append_assoc begun.before (begun.deed ∷ begun.after) more;
  on = begun.on;
  plan = begun.plan;
  asks_for = begun.asks_for;
}

abbrev AllBegun : List Deed → List Served → Type 0
AllBegun deeds calls = AllByRecursion (λ (served : Served). HasBegun served.stream deeds) calls

all_more : (deeds more : List Deed) (calls : List Served) → AllBegun deeds calls → AllBegun (deeds ++ more) calls
all_more deeds more [] all = tt
all_more deeds more (served ∷ calls) all = (more_begun served.stream deeds more all.0, all_more deeds more calls all.1)

all_both : (deeds : List Deed) (xs ys : List Served) → AllBegun deeds xs → AllBegun deeds ys → AllBegun deeds (xs ++ ys)
all_both deeds [] ys first second = second
all_both deeds (x ∷ xs) ys first second = (first.0, all_both deeds xs ys first.1 second)

first_of : (deeds : List Deed) (xs ys : List Served) → AllBegun deeds (xs ++ ys) → AllBegun deeds xs
first_of deeds [] ys all = tt
first_of deeds (x ∷ xs) ys all = (all.0, first_of deeds xs ys all.1)

last_of : (deeds : List Deed) (xs ys : List Served) → AllBegun deeds (xs ++ ys) → AllBegun deeds ys
last_of deeds [] ys all = all
last_of deeds (x ∷ xs) ys all = last_of deeds xs ys all.1

all_others : (deeds : List Deed) (stream : ℕ) (calls : List Served) → AllBegun deeds calls → AllBegun deeds (others_than stream calls)
all_others deeds stream [] all = tt
all_others deeds stream (served ∷ calls) all = by_test (served.stream == stream) (all_others deeds stream calls all.1)
  where
    by_test : (b : Bool) → AllBegun deeds (others_than stream calls) → AllBegun deeds (if b then others_than stream calls else served ∷ others_than stream calls)
    by_test true rest = rest
    by_test false rest = (all.0, rest)

on_one : (deeds : List Deed) (stream : ℕ) (calls : List Served) → AllByRecursion (λ (served : Served). served.stream ≡ stream) calls → HasBegun stream deeds → AllBegun deeds calls
on_one deeds stream [] on begun = tt
on_one deeds stream (served ∷ calls) on begun = (subst (λ (n : ℕ). HasBegun n deeds) (sym on.0) begun, on_one deeds stream calls on.1 begun)

module _ (schema : List SchemaNode) (before : List Deed) (deed : Deed) (old new : Service) (all : AllBegun before old.calls) where
  abbrev so_far : List Deed
  so_far = before ++ deed ∷ []

  grown : AllBegun so_far old.calls
  grown = all_more before (deed ∷ []) old.calls all

  same : new.calls ≡ old.calls → AllBegun so_far new.calls
  same is = subst (AllBegun so_far) (sym is) grown

  here : (plan : Plan) → AsksStream plan deed ⊎ AsksPoll plan deed → HasBegun deed.stream so_far
  here plan asks_for = record { before = before; deed = deed; after = []; among = refl; on = refl; plan = plan; asks_for = asks_for }

  one_more : (plan : Plan) → AsksStream plan deed ⊎ AsksPoll plan deed → new.calls ≡ others_than deed.stream old.calls ++ new_served deed.stream plan ∷ [] → AllBegun so_far new.calls
  one_more plan asks_for is = subst (AllBegun so_far) (sym is)
      (all_both so_far (others_than deed.stream old.calls) (new_served deed.stream plan ∷ []) (all_others so_far deed.stream old.calls grown) (here plan asks_for, tt))

  begun : (body : List ℕ) (plan : Plan) (mode : ListMode) → deed.doing ≡ Answering (asks.Subscribe body) → subscribe_step None body ≡ Ok (Begin plan) → plan.mode ≡ mode → subscribes.IsBegun schema plan mode deed old new → AllBegun so_far new.calls
  begun body plan modes.Once asked begins in_mode is = same is.turn.calls_are
  begun body plan modes.Other asked begins in_mode is = same (calls_in _ old.calls deed old new is)
  begun body plan modes.Stream asked begins in_mode is = one_more plan (inl (record { body = body; asked = asked; begins = begins; streams = in_mode })) (calls_in [] _ deed old new is)
  begun body plan modes.Poll asked begins in_mode is = one_more plan (inr (record { body = body; asked = asked; begins = begins; polls = in_mode })) (calls_in [] _ deed old new is)

  first : (body : List ℕ) (step : Result SubscribeStep Refusal) → deed.doing ≡ Answering (asks.Subscribe body) → subscribe_step None body ≡ step → IsFirst schema step deed old new → AllBegun so_far new.calls
  first body (Ok (Begin plan)) asked begins is = begun body plan plan.mode asked begins refl is
  first body (Ok Poll) asked begins is = absurd is
  first body (Err refusal) asked begins is = same (calls_in _ old.calls deed old new is)

  -- no call begins with another deed
  changed : (doing : Doing) → deed.doing ≡ doing → (IsFirstMessage doing → ⊥) → Changes deed old.calls new.calls → AllBegun so_far new.calls
  changed doing is none (inl unchanged) = same unchanged
  changed doing is none (inr (inl b)) = absurd (none (subst IsFirstMessage is b.first))
  changed doing is none (inr (inr e)) =
      let cut = subst (AllBegun so_far) e.among grown in
      let rest = last_of so_far e.others (e.call ∷ e.more) cut in
      subst (AllBegun so_far) (sym e.whole)
      (all_both so_far (e.others ++ e.left) e.more
      (all_both so_far e.others e.left (first_of so_far e.others (e.call ∷ e.more) cut)
      (on_one so_far deed.stream e.left e.on_it (subst (λ (n : ℕ). HasBegun n so_far) e.on rest.0)))
      rest.1)

  after_answer : (asked : Asked) → deed.doing ≡ Answering asked → IsAnswer schema asked deed old new → Changes deed old.calls new.calls → AllBegun so_far new.calls
  after_answer (asks.Subscribe body) is done change = by_case done
    where
      by_case : IsAnswer schema (asks.Subscribe body) deed old new → AllBegun so_far new.calls
      by_case (inl step) = first body (subscribe_step None body) is refl step
      by_case (inr memory) = same (calls_in _ old.calls deed old new memory)
  after_answer (asks.Call method body) is done change = changed _ is (λ none. none) change
  after_answer (asks.Later what) is done change = changed _ is (λ none. none) change
  after_answer (asks.Http status) is done change = changed _ is (λ none. none) change
  after_answer (asks.Refused refusal) is done change = changed _ is (λ none. none) change

  after_deed : (doing : Doing) → deed.doing ≡ doing → IsDone schema doing deed old new → Changes deed old.calls new.calls → AllBegun so_far new.calls
  after_deed (Answering asked) is done change = after_answer asked is done change
  after_deed (Handing body) is done change = changed _ is (λ none. none) change
  after_deed Turning is done change = changed _ is (λ none. none) change
  after_deed Dropping is done change = changed _ is (λ none. none) change

-- ---- turns

found_among : (deeds : List Deed) (others later : List Served) (served : Served) (calls : List Served) → calls ≡ others ++ served ∷ later → AllBegun deeds calls → HasBegun served.stream deeds
found_among deeds others later served calls is all = (last_of deeds others (served ∷ later) (subst (AllBegun deeds) is all)).0

module _ (schema : List SchemaNode) where
  turn_of_begun : (done : List Deed) (old last : Service) (before after : List Deed) (deed : Deed) → AllBegun done old.calls → AreDone schema old (before ++ deed ∷ after) last → deed.doing ≡ Turning → HasBegun deed.stream (done ++ before)
  turn_of_begun done old last [] after deed all (next, one, rest) is =
      let turn = subst (λ (doing : Doing). IsDone schema doing deed old next) is one in
      more_begun deed.stream done [] (subst (λ (n : ℕ). HasBegun n done) turn.among.on (found_among done turn.others turn.later turn.served old.calls turn.among.whole all))
  turn_of_begun done old last (d ∷ before) after deed all (next, one, rest) is =
      subst (HasBegun deed.stream) (append_assoc done (d ∷ []) before)
      (turn_of_begun (done ++ d ∷ []) next last before after deed (after_deed schema done d old next all d.doing refl one (changes schema d old next d.doing refl one)) rest is)

pub turns_begun : (schema : List SchemaNode) (port : PortView) (last : Service) (deeds : List Deed) → AreDone schema (record { port = port; calls = [] }) deeds last → (before after : List Deed) (deed : Deed) → deeds ≡ before ++ deed ∷ after → deed.doing ≡ Turning → HasBegun deed.stream before
turns_begun schema port last deeds done before after deed cut is =
    turn_of_begun schema [] (record { port = port; calls = [] }) last before after deed tt (subst (λ (ds : List Deed). AreDone schema (record { port = port; calls = [] }) ds last) cut done) is

-- ---- calls that were handed over

abbrev pub subscriber : Feeder → Subscriber
subscriber feeder = record { stream = feeder.stream; plan = feeder.plan }

pub fed_streams : (feeders : List Feeder) → map (λ (one : Subscriber). one.stream) (map subscriber feeders) ≡ streams_of feeders
fed_streams [] = refl
fed_streams (feeder ∷ feeders) = ap (λ l. feeder.stream ∷ l) (fed_streams feeders)

abbrev pub handed_over : (schema : List SchemaNode) (port : PortView) (deeds : List Deed) (given : List Input) (feeder : Feeder) → ServesCall schema port deeds given feeder → WasHandedOver deeds (subscriber feeder)
handed_over schema port deeds given feeder serves = record {
  before = serves.before;
  deed = serves.deed;
  after = serves.after;
  among = serves.whole;
  on = serves.on;
  body = serves.body;
  asked = serves.asked;
  begins = serves.begins;
  mode = serves.streams;
}

-- without threads no call is
pub none_handed : (streams : List ℕ) → AllByRecursion (λ (stream : ℕ). is_fed [] stream ≡ true) streams → [] ≡ streams
none_handed [] all = refl
none_handed (stream ∷ streams) all = absurd (cc (all.0))
