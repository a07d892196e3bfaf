-- Rounds go on.
use Rattle.std.proofs.Common.{◌≡◌, ℕ, List, [], ◌∷◌, ◌++◌, sym, ap, ◌∙◌, subst, append-nil, append_assoc}
use Rattle.std.specs.List.{AllByRecursion}
use Rattle.base_kinds.specs.Schema.{SchemaNode}
use Rattle.h2_events.specs.declared.event.RecvEvent.{RecvEvent}
use Rattle.h2_events.specs.declared.said.Said.{Said}
use Rattle.h2_send.specs.Inputs.{Input, Event, Speech}
use Rattle.session_core.specs.Deeds.{Deed, Service}
use Rattle.session_core.specs.Rounds.{Round, AreSpeeches, AreWhole, IsOfOneFrame, IsRecent, IsWhole, deeds_of, inputs_of}

pub all_more : {X : Type 0} (P : X → Type 0) (xs : List X) (x : X) → AllByRecursion P xs → P x → AllByRecursion P (xs ++ x ∷ [])
all_more P [] x ps p = (p, tt)
all_more P (y ∷ xs) x ps p = (ps.0, all_more P xs x ps.1 p)

pub inputs_one_more : (rounds : List Round) (round : Round) → inputs_of (rounds ++ round ∷ []) ≡ inputs_of rounds ++ round.inputs
inputs_one_more [] round = append-nil round.inputs
inputs_one_more (r ∷ rounds) round = ap (λ (is : List Input). r.inputs ++ is) (inputs_one_more rounds round) ∙ sym (append_assoc r.inputs (inputs_of rounds) round.inputs)

deeds_one_more : (rounds : List Round) (round : Round) → deeds_of (rounds ++ round ∷ []) ≡ deeds_of rounds ++ round.deeds
deeds_one_more [] round = append-nil round.deeds
deeds_one_more (r ∷ rounds) round = ap (λ (ds : List Deed). r.deeds ++ ds) (deeds_one_more rounds round) ∙ sym (append_assoc r.deeds (deeds_of rounds) round.deeds)

pub all_closed : (rounds : List Round) (round : Round) → deeds_of (rounds ++ round ∷ []) ++ [] ≡ deeds_of rounds ++ round.deeds
all_closed rounds round = append-nil (deeds_of (rounds ++ round ∷ [])) ∙ deeds_one_more rounds round

pub later_frame : (rounds : List Round) (round : Round) (event : RecvEvent) → IsOfOneFrame (rounds ++ round ∷ []) (Event event ∷ [])
later_frame [] round event = tt
later_frame (r ∷ rounds) round event = tt

speeches_more : (inputs : List Input) (stream : ℕ) (said : Said) → AreSpeeches inputs → AreSpeeches (inputs ++ Speech stream said ∷ [])
speeches_more [] stream said are = tt
speeches_more (Event event ∷ inputs) stream said are = are
speeches_more (Speech on word ∷ inputs) stream said are = speeches_more inputs stream said are

pub frame_more : (rounds : List Round) (inputs : List Input) (stream : ℕ) (said : Said) → IsOfOneFrame rounds inputs → IsOfOneFrame rounds (inputs ++ Speech stream said ∷ [])
frame_more [] inputs stream said is = speeches_more inputs stream said is
frame_more (r ∷ rounds) [] stream said is = absurd is
frame_more (r ∷ rounds) (Event event ∷ inputs) stream said is = speeches_more inputs stream said is
frame_more (r ∷ rounds) (Speech on word ∷ inputs) stream said is = absurd is

pub whole_more : (fed : List ℕ) (schema : List SchemaNode) (start : Service) (before rounds : List Round) (round : Round) → AreWhole fed schema start before rounds → IsWhole fed schema start (before ++ rounds) round
    → AreWhole fed schema start before (rounds ++ round ∷ [])
whole_more fed schema start before [] round are is = (subst (λ (rs : List Round). IsWhole fed schema start rs round) (append-nil before) is, tt)
whole_more fed schema start before (r ∷ rounds) round are is =
    (are.0, whole_more fed schema start (before ++ r ∷ []) rounds round are.1 (subst (λ (rs : List Round). IsWhole fed schema start rs round) (sym (append_assoc before (r ∷ []) rounds)) is))

pub recent_more : (inputs : List Input) (deeds : List Deed) (stream : ℕ) (said : Said) → AllByRecursion (IsRecent inputs) deeds → AllByRecursion (IsRecent (inputs ++ Speech stream said ∷ [])) deeds
recent_more inputs [] stream said are = tt
recent_more inputs (d ∷ deeds) stream said are = (
  record {
    more = are.0.more ++ Speech stream said ∷ [];
    joined = ap (λ (is : List Input). is ++ Speech stream said ∷ []) are.0.joined ∙ append_assoc d.given are.0.more (Speech stream said ∷ []);
    speeches = speeches_more are.0.more stream said are.0.speeches;
  },
  recent_more inputs deeds stream said are.1,
)
