-- When deeds are done: what a frame causes stands before the next frame, and then each call that is served takes its turn where its
-- stream is free.
use Rattle.std.specs.Prelude.{◌≡◌, ◌⊎◌, ℕ, ◌+◌, ◌==◌, ◌≤◌, nat_lt, List, [], ◌∷◌, ◌++◌, Bool, true, false, ◌&&◌, if◌then◌else◌}
use Rattle.std.specs.List.{AllByRecursion}
use Rattle.base_kinds.specs.declared.request.ListMode.{ListMode}
use Rattle.base_kinds.specs.declared.request.ListMode.TheVariants as modes
use Rattle.base_kinds.specs.Schema.{SchemaNode}
use Rattle.h2_events.specs.declared.port.Ready.TheVariants.{Busy}
use Rattle.h2_events.specs.Items.{heard, said_on}
use Rattle.h2_send.specs.Inputs.{Input, Event, Speech}
use Rattle.h2_send.specs.Lines.{first_line}
use Rattle.h2_send.specs.Offers.{ready_on}
use Rattle.h2_send.specs.Orders.{line_after, order_of}
use Rattle.grpc_requests.specs.Requests.{requests}
use Rattle.stream_workers.specs.Feeders.{is_fed}
use Rattle.session_core.specs.declared.served.Served.{Served}
use Rattle.session_core.specs.declared.waiting.Waiting.{Waiting}
use Rattle.session_core.specs.Deeds.{Deed, Doing, Turning, Service, AreDone, requests_in, said_to}
use Rattle.session_core.specs.Saying.{AreBehind, IsSaid}

-- what was done behind one frame, and what the sending half was given from that frame on
pub record Round : Type 0 where
  pub deeds : List Deed
  pub inputs : List Input

abbrev pub deeds_of : List Round → List Deed
deeds_of [] = []
deeds_of (round ∷ rounds) = round.deeds ++ deeds_of rounds

abbrev pub inputs_of : List Round → List Input
inputs_of [] = []
inputs_of (round ∷ rounds) = round.inputs ++ inputs_of rounds

abbrev pub AreSpeeches : List Input → Type 0
AreSpeeches [] = Unit {0}
AreSpeeches (Event event ∷ inputs) = ⊥
AreSpeeches (Speech stream said ∷ inputs) = AreSpeeches inputs

-- Each round but the first, which is that before any frame, begins with a frame and has no other.
abbrev pub IsOfOneFrame : List Round → List Input → Type 0
IsOfOneFrame [] inputs = AreSpeeches inputs
IsOfOneFrame (round ∷ rounds) [] = ⊥
IsOfOneFrame (round ∷ rounds) (Event event ∷ inputs) = AreSpeeches inputs
IsOfOneFrame (round ∷ rounds) (Speech stream said ∷ inputs) = ⊥

-- no frame was acted on behind the deed
pub record IsRecent (inputs : List Input) (deed : Deed) : Type 0 where
  pub more : List Input
  pub joined : inputs ≡ deed.given ++ more
  pub speeches : AreSpeeches more

-- ---- turns

abbrev pub is_turn : Doing → Bool
is_turn Turning = true
is_turn _ = false

-- A turn is taken once all that was asked so far is answered, and all that was to be said on its stream was said.
pub record IsTimely (before : List Deed) (deed : Deed) : Type 0 where
  pub answered : requests_in before ≡ requests (heard (order_of deed.given))
  pub said : said_on deed.stream (order_of deed.given) ≡ said_to deed.stream before

-- so it is for each turn of these deeds, behind those, on a stream that no feeder serves
abbrev pub AreTimely : List ℕ → List Deed → List Deed → Type 0
AreTimely fed before [] = Unit {0}
AreTimely fed before (deed ∷ deeds) =
    (is_turn deed.doing ≡ true → is_fed fed deed.stream ≡ false → IsTimely before deed)
    × AreTimely fed (before ++ deed ∷ []) deeds

-- how many turns the call on the stream has taken
abbrev pub turns_on : ℕ → List Deed → ℕ
turns_on stream [] = 0
turns_on stream (deed ∷ deeds) =
    (if deed.stream == stream && is_turn deed.doing then 1 else 0) + turns_on stream deeds

-- A STREAM call has taken a turn in the round, and of a POLL call no Poll waits,
abbrev pub had_turns : ListMode → Served → List Deed → Bool
had_turns modes.Stream served deeds = nat_lt 0 (turns_on served.stream deeds)
had_turns modes.Poll served deeds = served.polls == 0
had_turns mode served deeds = true

-- unless octets wait on its stream that the peer's windows don't let through; and a STREAM call has taken no other.
pub record HadTurns (deeds : List Deed) (inputs : List Input) (served : Served) : Type 0 where
  pub had : (had_turns served.call.plan.mode served deeds ≡ true)
      ⊎ (ready_on served.stream (line_after first_line inputs).streams ≡ Busy)
  pub once : served.call.plan.mode ≡ modes.Stream → turns_on served.stream deeds ≤ 1

-- ---- rounds

-- A round is whole, behind those before it: all requests so far are answered, what the deeds say was said, or waits behind octets
-- that the peer's windows don't let through, and each call that is served has had its turns. What feeders say comes between the
-- frames.
pub record IsWhole (fed : List ℕ) (schema : List SchemaNode) (start : Service)
    (before : List Round) (round : Round) : Type 0 where
  pub end : Service
  pub done : AreDone schema start (deeds_of before ++ round.deeds) end
  pub asked : requests_in (deeds_of before ++ round.deeds)
      ≡ requests (heard (order_of (inputs_of before ++ round.inputs)))
  pub frame : IsOfOneFrame before round.inputs
  pub recent : AllByRecursion (IsRecent (inputs_of before ++ round.inputs)) round.deeds
  pub waiting : List Waiting
  pub said : (stream : ℕ) → is_fed fed stream ≡ false
      → IsSaid stream waiting (order_of (inputs_of before ++ round.inputs))
      (deeds_of before ++ round.deeds)
  pub behind : AreBehind (inputs_of before ++ round.inputs) waiting
  pub turned : AllByRecursion (HadTurns round.deeds (inputs_of before ++ round.inputs)) end.calls

-- each of these rounds, behind those
abbrev pub AreWhole : List ℕ → List SchemaNode → Service → List Round → List Round → Type 0
AreWhole fed schema start before [] = Unit {0}
AreWhole fed schema start before (round ∷ rounds) =
    IsWhole fed schema start before round
    × AreWhole fed schema start (before ++ round ∷ []) rounds
