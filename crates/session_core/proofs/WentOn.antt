-- What feeders gave the sending half between two calls of the session: it stands as before, or they met the fault that closed it.
use Rattle.std.proofs.Common.{◌≡◌, ◌⊎◌, inl, inr, ℕ, List, [], ◌∷◌, ◌++◌, map, true, refl, sym, ap, ◌∙◌, subst, arith, Option, Some, None, Err}
use Rattle.std.specs.List.{AllByRecursion}
use Rattle.std.proofs.lemmas.Bool.{false≢true}
use Rattle.h2_events.specs.declared.port.Ready.TheVariants.{Free}
use Rattle.h2_send.specs.Offers.{ready_on}
use Rattle.h2_send.specs.Orders.{line_after}
use Rattle.environment.specs.Output.{Output, Wrote}
use Rattle.h2_windows.specs.Written.{octets_of}
use Rattle.h2_streams.specs.Calls.{Moment}
use Rattle.h2_events.specs.declared.port.Took.{Took}
use Rattle.h2_events.specs.declared.port.Took.TheVariants as took
use Rattle.h2_events.specs.declared.said.Said.{Said}
use Rattle.h2_send.specs.Accepting.{AreAccepted, IsAccepted}
use Rattle.h2_send.specs.Conditions.{IsClosed, answer_of}
use Rattle.h2_send.specs.Inputs.{Input, Event, Speech}
use Rattle.h2_send.specs.Lines.{first_line}
use Rattle.h2_send.specs.Outputs.{frames_of}
use Rattle.h2_send.specs.Port.{Progress, Takes, line_of}
use Rattle.h2_send.specs.declared.condition.Condition.{Condition}
use Rattle.h2_send.specs.declared.condition.Condition.TheVariants as condition
use Rattle.h2_send.specs.declared.fault.WireFaultOut.{WireFaultOut}
use Rattle.h2_send.specs.declared.fault.WireFaultOut.TheVariants as faults
use Rattle.h2_send.proofs.Holding.{accepted_more}
use Rattle.session_core.specs.Feeding.{AreFromFeeders}
use Rattle.stream_workers.specs.Feeders.{IsOfFeeder, is_fed}
use Rattle.session_core.specs.Serving.{Course, Start}
use Rattle.session_core.specs.inner.Ends.{how_of}
use Rattle.session_core.specs.inner.Places.{IsLeft, IsWriting}
use Rattle.session_core.specs.inner.Feeders.{AreOfFeeders, HasFeeders, IsServedBeside, FeederState}
use Rattle.session_core.specs.Deeds.{Deed}
use Rattle.session_core.specs.inner.Sending.{WireHistory, Finds, Gives}
use Rattle.session_core.proofs.Others.{course_with, free_accepted, served_on}
use Rattle.session_core.proofs.Words.{breaks_off, writes_on}

-- ---- what others did is what feeders said

all_behind : (fed : List ℕ) (before did : List (Option Input)) → AllByRecursion (IsOfFeeder fed) (before ++ did) → AllByRecursion (IsOfFeeder fed) did
all_behind fed [] did are = are
all_behind fed (one ∷ before) did are = all_behind fed before did are.1

all_given : (fed : List ℕ) (did : List (Option Input)) → AllByRecursion (IsOfFeeder fed) did → (inputs : List Input) × (did ≡ map Some inputs) × AreFromFeeders fed inputs
all_given fed [] are = ([], refl, tt)
all_given fed (None ∷ did) are = absurd are.0
all_given fed (Some input ∷ did) are =
    let rest = all_given fed did are.1 in
    (input ∷ rest.0, ap (λ (os : List (Option Input)). Some input ∷ os) rest.1, (are.0, rest.2))

-- Nothing is given behind what closed it.
nothing_more : (theirs : List Input) (old found : Progress) → IsClosed old.condition → Gives theirs old found → found ≡ old
nothing_more [] old found is_closed same = same
nothing_more (input ∷ theirs) old found is_closed gives = absurd (subst IsClosed gives.0 is_closed)

-- what is found closed was so before
pub closed_found : (fed : List ℕ) (before after : WireHistory) (old found : Progress) → Finds before.others after.others old found → AreOfFeeders fed after → IsClosed old.condition → found ≡ old
closed_found fed before after old found finds theirs is_closed =
    let did = all_given fed finds.did (all_behind fed before.others finds.did (subst (λ (os : List (Option Input)). AllByRecursion (IsOfFeeder fed) os) finds.told theirs)) in
    nothing_more did.0 old found is_closed (finds.gave did.0 did.1)

-- ---- what holds of an open sending half, and holds on with each thing that a feeder says

module _ (fed : List ℕ) (Holds : Progress → Type 0) (Breaks : WireFaultOut → Progress → Type 0)
    (taken : (old new : Progress) (on : ℕ) (said : Said) → is_fed fed on ≡ true → IsAccepted (Speech on said) (line_of old) → Takes took.Taken (Speech on said) old new → Holds old → Holds new)
    (broken : (old new : Progress) (on : ℕ) (said : Said) → is_fed fed on ≡ true → IsAccepted (Speech on said) (line_of old) → Takes took.WriteFault (Speech on said) old new → Holds old → Breaks faults.WriteFault new)
    (starved : (old new : Progress) (on : ℕ) (said : Said) → is_fed fed on ≡ true → IsAccepted (Speech on said) (line_of old) → Takes took.NoMemory (Speech on said) old new → Holds old → Breaks faults.NoMemory new) where
  abbrev pub WentOn : Progress → Type 0
  WentOn found = Holds found ⊎ ((fault : WireFaultOut) × (answer_of found.condition ≡ Err fault) × Breaks fault found)

  closed_so : (fault : WireFaultOut) (state : Condition) (theirs : List Input) (next found : Progress) → next.condition ≡ state → IsClosed state → answer_of state ≡ Err fault → Gives theirs next found → Breaks fault next → WentOn found
  closed_so fault state theirs next found is is_closed told gives breaks =
      let same = nothing_more theirs next found (subst IsClosed (sym is) is_closed) gives in
      subst WentOn (sym same) (inr (fault, ap answer_of is ∙ told, breaks))

  one_more : (answer : Took) (on : ℕ) (said : Said) (theirs : List Input) (old next found : Progress) → is_fed fed on ≡ true → IsAccepted (Speech on said) (line_of old) → Takes answer (Speech on said) old next
      → Gives theirs next found → (Holds next → WentOn found) → Holds old → WentOn found
  one_more took.Taken on said theirs old next found own accepts takes gives rest holds = rest (taken old next on said own accepts takes holds)
  one_more took.WriteFault on said theirs old next found own accepts takes gives rest holds =
      closed_so faults.WriteFault condition.WriteFault theirs next found takes.2 tt refl gives (broken old next on said own accepts takes holds)
  one_more took.NoMemory on said theirs old next found own accepts takes gives rest holds =
      closed_so faults.NoMemory condition.NoMemory theirs next found takes.2 tt refl gives (starved old next on said own accepts takes holds)
  one_more took.Busy on said theirs old next found own accepts never gives rest holds = absurd never
  one_more took.Gone on said theirs old next found own accepts never gives rest holds = absurd never

  pub went_on : (theirs : List Input) (old found : Progress) → AreFromFeeders fed theirs → Gives theirs old found → Holds old → WentOn found
  went_on [] old found from same holds = inl (subst Holds (sym same) holds)
  went_on (Event event ∷ theirs) old found from gives holds = absurd from.0
  went_on (Speech on said ∷ theirs) old found from gives holds =
      one_more gives.2 on said theirs old gives.3 found from.0 gives.1 gives.4 gives.5 (λ next. went_on theirs gives.3 found from.1 gives.5 next) holds

  -- so where all that others did is what feeders said
  pub all_went_on : (before after : WireHistory) (old found : Progress) → Finds before.others after.others old found → AreOfFeeders fed after → Holds old → WentOn found
  all_went_on before after old found finds theirs holds =
      let did = all_given fed finds.did (all_behind fed before.others finds.did (subst (λ (os : List (Option Input)). AllByRecursion (IsOfFeeder fed) os) finds.told theirs)) in
      went_on did.0 old found did.2 (finds.gave did.0 did.1) holds

-- ---- what was served, and what holds of the inputs beside

-- it holds on with what is said on a stream that is free
abbrev pub IsStable : (List Input → Type 0) → Type 0
IsStable E = (given : List Input) (on : ℕ) (said : Said) → ready_on on (line_after first_line given).streams ≡ Free → E given → E (given ++ Speech on said ∷ [])

-- So much is served of a session beside feeders, and the sending half is open.
pub record StandsBeside (fed : List ℕ) (start : Start) (output : Output) (side : FeederState) (course : Course) (E : List Input → Type 0) (at : Progress) : Type 0 where
  pub writing : IsWriting output at
  pub served : IsServedBeside fed start side (course_with course at.inputs)
  pub more : E at.inputs

-- The sending half is closed by a fault that a feeder met, behind these inputs.
pub record IsClosedBeside (fed : List ℕ) (start : Start) (octets : List ℕ) (moments : List Moment) (output : Output) (side : FeederState) (course : Course) (fault : WireFaultOut)
    (at : Progress) : Type 0 where
  pub inputs : List Input
  pub accepted : AreAccepted first_line inputs
  pub served : IsServedBeside fed start side (course_with course inputs)
  pub left : IsLeft (how_of fault) octets moments inputs output at
  -- there is a feeder
  pub some : fed ≡ [] → ⊥

-- feeders serve the stream
some_fed : (fed : List ℕ) (stream : ℕ) → is_fed fed stream ≡ true → fed ≡ [] → ⊥
some_fed fed stream theirs none = false≢true (sym (ap (λ (f : List ℕ). is_fed f stream) none) ∙ theirs)

one_beside : (fed : List ℕ) (start : Start) (side : FeederState) (course : Course) (on : ℕ) (said : Said) → is_fed fed on ≡ true → IsServedBeside fed start side course → IsServedBeside fed start side (course_with course (course.inputs ++ Speech on said ∷ []))
one_beside fed start side course on said theirs all =
    let now = served_on fed start course on said theirs all.served in
    record { served = now.0; beside = subst (λ (ds : List Deed). HasFeeders start.port side course.waiting course.moments ds) (sym now.1) all.beside }

module _ (fed : List ℕ) (start : Start) (octets : List ℕ) (moments : List Moment) (output : Output) (side : FeederState) (course : Course) (E : List Input → Type 0) (stable : IsStable E) where
  stands_on : (old new : Progress) (on : ℕ) (said : Said) → is_fed fed on ≡ true → IsAccepted (Speech on said) (line_of old) → Takes took.Taken (Speech on said) old new → StandsBeside fed start output side course E old → StandsBeside fed start output side course E new
  stands_on old new on said theirs accepts takes stands = record {
    writing = writes_on output old new (Speech on said) stands.writing accepts takes;
    served = subst (λ (is : List Input). IsServedBeside fed start side (course_with course is)) (sym takes.1) (one_beside fed start side (course_with course old.inputs) on said theirs stands.served);
    more = subst E (sym takes.1) (stable old.inputs on said (free_accepted on said (line_of old) accepts) stands.more);
  }

  breaks_there : (old new : Progress) (on : ℕ) (said : Said) → is_fed fed on ≡ true → IsAccepted (Speech on said) (line_of old) → Takes took.WriteFault (Speech on said) old new → StandsBeside fed start output side course E old
      → IsClosedBeside fed start octets moments output side course faults.WriteFault new
  breaks_there old new on said theirs accepts takes stands = record {
    inputs = old.inputs ++ Speech on said ∷ [];
    accepted = accepted_more first_line old.inputs (Speech on said) stands.writing.accepted accepts;
    served = one_beside fed start side (course_with course old.inputs) on said theirs stands.served;
    left = (takes.2, takes.1, breaks_off octets moments output old new (Speech on said) stands.writing takes.0);
    some = some_fed fed on theirs;
  }

  starves_there : (old new : Progress) (on : ℕ) (said : Said) → is_fed fed on ≡ true → IsAccepted (Speech on said) (line_of old) → Takes took.NoMemory (Speech on said) old new → StandsBeside fed start output side course E old
      → IsClosedBeside fed start octets moments output side course faults.NoMemory new
  starves_there old new on said theirs accepts takes stands = record {
    inputs = old.inputs;
    accepted = stands.writing.accepted;
    served = stands.served;
    left = (inr (takes.2, (Speech on said ∷ [], takes.1, omega arith)), subst (λ (o : Output). Wrote (octets_of (frames_of old.inputs)) output o) (sym takes.0) stands.writing.wrote);
    some = some_fed fed on theirs;
  }

  -- so it stands, or is closed, where all that others did is what feeders said
  pub others_went_on : (before after : WireHistory) (old found : Progress) → Finds before.others after.others old found → AreOfFeeders fed after → StandsBeside fed start output side course E old
      → StandsBeside fed start output side course E found ⊎ ((fault : WireFaultOut) × (answer_of found.condition ≡ Err fault) × IsClosedBeside fed start octets moments output side course fault found)
  others_went_on before after old found finds theirs stands =
      all_went_on fed (StandsBeside fed start output side course E) (IsClosedBeside fed start octets moments output side course) stands_on breaks_there starves_there before after old found finds theirs stands
