-- What the ports of a wire have seen of it.
use Rattle.std.proofs.Common.{◌≡◌, List, [], ◌∷◌, ◌++◌, refl, sym, ap, ◌∙◌, subst, append-nil, append_assoc}
use Rattle.std.specs.List.{AllByRecursion}
use Rattle.base_kinds.specs.Schema.{SchemaNode}
use Rattle.h2_send.specs.Conditions.{IsClosed}
use Rattle.h2_send.specs.Inputs.{Input}
use Rattle.h2_send.specs.Port.{Progress}
use Rattle.h2_send.specs.declared.condition.Condition.TheVariants as condition
use Rattle.shared_wire.specs.Records.{Deed as WireDeed, Began, Gave, Refused, Ended, Starved, AreRecords, Follow, Leaves, WireRecord, last_behind, left_in}
use Rattle.shared_wire.specs.Visits.{VisitView}
use Rattle.shared_wire.proofs.Following.{follow_behind}
use Rattle.shared_wire.proofs.Holding.{closed_not_open}
use Rattle.stream_worker.specs.Wires.{WireView}
use Rattle.stream_workers.specs.Feeders.{Feeder, HasEnded, HaveEnded, MeetsVisits, Started}

-- ---- what the records of a wire gave

abbrev pub gave_by : WireDeed → List Input
gave_by (Gave input) = input ∷ []
gave_by deed = []

abbrev pub gave_in : List WireRecord → List Input
gave_in [] = []
gave_in (r ∷ rs) = gave_by r.deed ++ gave_in rs

-- the inputs with which it was put behind its lock
abbrev pub begun_with : List WireRecord → List Input
begun_with [] = []
begun_with (first ∷ rs) = first.left.inputs

one_behind : (deed : WireDeed) (at left : Progress) → Leaves deed at left → left.inputs ≡ at.inputs ++ gave_by deed
one_behind Began at left leaves = absurd leaves
one_behind (Gave input) at left leaves = leaves.1
one_behind (Refused input) at left leaves = ap (λ (p : Progress). p.inputs) leaves.1 ∙ sym (append-nil at.inputs)
one_behind (Ended code) at left leaves = leaves.0 ∙ sym (append-nil at.inputs)
one_behind (Starved input) at left leaves = ap (λ (p : Progress). p.inputs) leaves ∙ sym (append-nil at.inputs)

pub inputs_behind : (before : WireRecord) (rs : List WireRecord) → Follow before rs → (last_behind before rs).left.inputs ≡ before.left.inputs ++ gave_in rs
inputs_behind before [] follow = sym (append-nil before.left.inputs)
inputs_behind before (r ∷ rs) follow =
    inputs_behind r rs follow.3
    ∙ ap (λ (is : List Input). is ++ gave_in rs) (one_behind r.deed before.left r.left follow.1)
    ∙ append_assoc before.left.inputs (gave_by r.deed) (gave_in rs)

-- Behind a record that closed the wire there is none.
pub closed_last : (seen others : List WireRecord) → AreRecords (seen ++ others) → AreRecords seen → ((left_in seen).condition ≡ condition.Open → ⊥) → left_in (seen ++ others) ≡ left_in seen
closed_last [] others all are closed = absurd are
closed_last (first ∷ rs) [] all are closed = ap left_in (append-nil (first ∷ rs))
closed_last (first ∷ rs) (r ∷ others) all are closed = absurd (closed (follow_behind first rs (r ∷ others) all.2).0)

-- ---- what was seen stands first

-- What a port has seen of it stands first in what was given, and is all of that where it was closed.
pub record HasSeenFront (given : List Input) (progress : Progress) : Type 0 where
  pub rest : List Input
  pub seen : given ≡ progress.inputs ++ rest
  pub closed : IsClosed progress.condition → rest ≡ []

abbrev pub IsAtFront : List WireRecord → VisitView → Type 0
IsAtFront all visit = (rest : List WireRecord) × (all ≡ visit.seen ++ rest)

pub fronts_of : (all : List WireRecord) (old : VisitView) (visits : List VisitView) (new : VisitView) → MeetsVisits old visits new → IsAtFront all new → IsAtFront all old × AllByRecursion (IsAtFront all) visits
fronts_of all old [] new is front = (subst (IsAtFront all) is front, tt)
fronts_of all old (visit ∷ visits) new (next, meets, others) front =
    let later = fronts_of all next visits new others front in
    let rest : List WireRecord = later.0.0 in (
      (meets.has_own.others ++ rest, later.0.1 ∙ ap (λ (rs : List WireRecord). rs ++ rest) meets.has_own.whole ∙ append_assoc old.seen meets.has_own.others rest),
      ((meets.has_other.others ++ rest, later.0.1 ∙ ap (λ (rs : List WireRecord). rs ++ rest) meets.has_other.whole ∙ append_assoc visit.seen meets.has_other.others rest), later.1),
    )

gave_more : (xs ys : List WireRecord) → gave_in (xs ++ ys) ≡ gave_in xs ++ gave_in ys
gave_more [] ys = refl
gave_more (r ∷ xs) ys = ap (λ (is : List Input). gave_by r.deed ++ is) (gave_more xs ys) ∙ sym (append_assoc (gave_by r.deed) (gave_in xs) (gave_in ys))

inputs_front : (seen others : List WireRecord) → AreRecords seen → AreRecords (seen ++ others) → (left_in (seen ++ others)).inputs ≡ (left_in seen).inputs ++ gave_in others
inputs_front [] others are all = absurd are
inputs_front (first ∷ rs) others are all =
    inputs_behind first (rs ++ others) all.2 ∙ ap (λ (is : List Input). first.left.inputs ++ is) (gave_more rs others)
    ∙ sym (append_assoc first.left.inputs (gave_in rs) (gave_in others)) ∙ ap (λ (is : List Input). is ++ gave_in others) (sym (inputs_behind first rs are.2))

none_behind : (xs ys : List Input) → xs ++ ys ≡ xs → ys ≡ []
none_behind [] ys is = is
none_behind (x ∷ xs) ys is = none_behind xs ys (ap rest_of is) where
  rest_of : List Input → List Input
  rest_of [] = []
  rest_of (y ∷ zs) = zs

sees_front : (all last others : List WireRecord) → AreRecords all → AreRecords last → all ≡ last ++ others → HasSeenFront (left_in all).inputs (left_in last)
sees_front all last others are records whole =
    let cut = subst AreRecords whole are in
    let front = inputs_front last others records cut in
    record {
      rest = gave_in others;
      seen = ap (λ (rs : List WireRecord). (left_in rs).inputs) whole ∙ front;
      closed = λ closed. none_behind (left_in last).inputs (gave_in others)
          (sym front ∙ ap (λ (p : Progress). p.inputs) (closed_last last others cut records (closed_not_open (left_in last).condition closed)));
    }

has_seen_front : (schema : List SchemaNode) (all : List WireRecord) → AreRecords all → (one : Started) (feeder : Feeder) (visit : VisitView) → HasEnded schema one feeder visit → IsAtFront all visit → HasSeenFront (left_in all).inputs feeder.to.wire.progress
has_seen_front schema all are one feeder visit has front =
    let last = has.last.seen in
    let others = has.went_on.others ++ front.0 in
    subst (λ (w : WireView). HasSeenFront (left_in all).inputs w.progress) (sym has.last_is)
    (sees_front all last others are has.records
    (front.1 ∙ ap (λ (rs : List WireRecord). rs ++ front.0) has.went_on.whole ∙ append_assoc last has.went_on.others front.0))

pub all_see : (schema : List SchemaNode) (all : List WireRecord) → AreRecords all → (started : List Started) (feeders : List Feeder) (visits : List VisitView) → HaveEnded schema started feeders visits → AllByRecursion (IsAtFront all) visits
    → AllByRecursion (λ (feeder : Feeder). HasSeenFront (left_in all).inputs feeder.to.wire.progress) feeders
all_see schema all are [] feeders visits have fronts = subst (AllByRecursion (λ (feeder : Feeder). HasSeenFront (left_in all).inputs feeder.to.wire.progress)) (sym have.0) tt
all_see schema all are (one ∷ started) [] visits have fronts = tt
all_see schema all are (one ∷ started) (feeder ∷ feeders) [] have fronts = absurd have
all_see schema all are (one ∷ started) (feeder ∷ feeders) (visit ∷ visits) have fronts =
    (has_seen_front schema all are one feeder visit have.0 fronts.0, all_see schema all are started feeders visits have.1 fronts.1)
