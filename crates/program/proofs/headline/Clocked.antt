-- Each turn of a session is taken at one reading of its clock.
use Rattle.std.proofs.Common.{◌≡◌, ◌⊎◌, inl, inr, ℕ, zero, suc, List, [], ◌∷◌, Bool, true, false, nat_lt, refl, sym, ap, ◌∙◌, Option, Some, None, Result, Ok, Err}
use Rattle.std.specs.List.{AllByRecursion}
use Rattle.base_kinds.specs.declared.refusal.Refusal.{Refusal}
use Rattle.base_kinds.specs.declared.request.ListMode.{ListMode}
use Rattle.base_kinds.specs.declared.request.ListMode.TheVariants as modes
use Rattle.base_kinds.specs.Schema.{SchemaNode}
use Rattle.book_port.specs.Follows.{Turn}
use Rattle.book_port.specs.Ports.{PortView}
use Rattle.grpc_requests.specs.declared.request.Asked.{Asked}
use Rattle.grpc_requests.specs.declared.request.Asked.TheVariants as asks
use Rattle.grpc_requests.specs.declared.request.Later.{Later}
use Rattle.grpc_requests.specs.declared.request.Later.TheVariants as later
use Rattle.h2_events.specs.declared.said.Said.{Said}
use Rattle.request_desk.specs.Answers.{Moves}
use Rattle.request_desk.specs.Subscribes.{subscribe_step}
use Rattle.request_desk.specs.declared.subscribe_steps.SubscribeStep.{SubscribeStep}
use Rattle.request_desk.specs.declared.subscribe_steps.SubscribeStep.TheVariants.{Begin, Poll}
use Rattle.session_core.specs.declared.served.Served.{Served}
use Rattle.session_core.specs.Deeds.{AreDone, Deed, Doing, Answering, Handing, Turning, Dropping, Service, IsPlain, IsTurn, IsTurnIn, IsBegun, IsFirst, IsPolled, IsNext, IsEnding, IsHeardBy, IsAnswer, IsDone, most_polls}
use Rattle.sub_plan.specs.declared.plan.Plan.{Plan}
use Rattle.subscribe_calls.specs.Calls.{CallView}
use Rattle.program.specs.headline.Sessions.{IsClocked}

module _ (schema : List SchemaNode) (deed : Deed) (old new : Service) where
  unturned : deed.turn ≡ None → IsClocked deed
  unturned none turn is = absurd (no (sym none ∙ is))
    where
      no : None ≡ Some turn → ⊥
      no same = cc same

  read_at : (now : ℕ) (taken : Turn) → taken.reading ≡ now → deed.turn ≡ Some taken → deed.readings ≡ now ∷ [] → IsClocked deed
  read_at now taken reading turned read turn is =
      let same : taken ≡ turn = one (sym turned ∙ is) in
      read ∙ ap (λ (n : ℕ). n ∷ []) (sym reading ∙ ap (λ (t : Turn). t.reading) same)
    where
      one : Some taken ≡ Some turn → taken ≡ turn
      one both = cc both

  plain : (said : List Said) (calls : List Served) → IsPlain said calls deed old new → IsClocked deed
  plain said calls is = unturned is.unturned

  turned : (call after : CallView) (result : Result (List (List ℕ)) Refusal) (said : List Said) (calls : List Served) → IsTurn schema call after result said calls deed old new → IsClocked deed
  turned call after result said calls is = read_at is.now is.turns.looks.turn is.turns.looks.reading is.turned is.read

  replied : (now : ℕ) (taken : Option Turn) (result : Result (List ℕ) Refusal) → Moves old.port now taken result new.port → deed.turn ≡ taken → deed.readings ≡ now ∷ [] → IsClocked deed
  replied now None result moves is read = unturned is
  replied now (Some taken) result moves is read = read_at now taken moves.0 is read

  begun : (plan : Plan) (mode : ListMode) → IsBegun schema plan mode deed old new → IsClocked deed
  begun plan modes.Once is = turned _ is.after is.result _ _ is.turn
  begun plan modes.Other is = plain _ _ is
  begun plan modes.Stream is = plain _ _ is
  begun plan modes.Poll is = plain _ _ is

  first : (step : Result SubscribeStep Refusal) → IsFirst schema step deed old new → IsClocked deed
  first (Ok (Begin plan)) is = begun plan plan.mode is
  first (Ok Poll) is = absurd is
  first (Err refusal) is = plain _ _ is

  module _ (served : Served) (others more : List Served) where
    polled : (b : Bool) → IsPolled b served others more deed old new → IsClocked deed
    polled true is = plain _ _ is
    polled false is = plain _ _ is

    next : (step : Result SubscribeStep Refusal) → IsNext step served others more deed old new → IsClocked deed
    next (Ok Poll) is = polled (nat_lt served.polls most_polls) is
    next (Ok (Begin plan)) is = absurd is
    next (Err refusal) is = plain _ _ is

    ending : (mode : ListMode) (polls : ℕ) → IsEnding mode polls served others more deed old new → IsClocked deed
    ending modes.Poll zero is = plain _ _ is
    ending modes.Poll (suc polls) is = plain _ _ is
    ending modes.Stream polls is = plain _ _ is
    ending modes.Once polls is = plain _ _ is
    ending modes.Other polls is = plain _ _ is

    heard_by : (what : Later) → IsHeardBy what served others more deed old new → IsClocked deed
    heard_by (later.Message body) (inl is) = next (subscribe_step (Some served.call.plan.mode) body) is
    heard_by (later.Message body) (inr is) = plain _ _ is
    heard_by (later.Fault refusal) is = plain _ _ is
    heard_by later.End is = ending served.call.plan.mode served.polls is

    in_mode : (mode : ListMode) → IsTurnIn mode schema served others more deed old new → IsClocked deed
    in_mode modes.Stream is = turned served.call is.after is.result _ _ is.turn
    in_mode modes.Poll is = turned _ is.after is.result _ _ is.turn
    in_mode modes.Once is = absurd is
    in_mode modes.Other is = absurd is

  answered : (asked : Asked) → IsAnswer schema asked deed old new → IsClocked deed
  answered (asks.Call method body) is = replied is.now is.answered.turn is.result is.answered.moves is.turned is.read
  answered (asks.Subscribe body) (inl is) = first (subscribe_step None body) is
  answered (asks.Subscribe body) (inr is) = plain _ _ is
  answered (asks.Later what) (inl is) = heard_by is.served is.others is.later what is.next
  answered (asks.Later what) (inr is) = plain _ _ is.plain
  answered (asks.Http status) is = plain _ _ is
  answered (asks.Refused refusal) is = plain _ _ is

  clocked : (doing : Doing) → IsDone schema doing deed old new → IsClocked deed
  clocked (Answering asked) is = answered asked is
  clocked (Handing body) is = plain _ _ is.plain
  clocked Turning is = in_mode is.served is.others is.later is.served.call.plan.mode is.turn
  clocked Dropping is = plain _ _ is.plain

pub all_clocked : (schema : List SchemaNode) (old : Service) (deeds : List Deed) (new : Service) → AreDone schema old deeds new → AllByRecursion IsClocked deeds
all_clocked schema old [] new done = tt
all_clocked schema old (deed ∷ deeds) new (next, one, rest) = (clocked schema deed old next deed.doing one, all_clocked schema next deeds new rest)
