-- A session finds the sending half as feeders left it: it stands as before, or ends with the fault that closed it.
use Rattle.std.proofs.Common.{◌≡◌, ◌⊎◌, inl, inr, ℕ, List, [], ◌++◌, sym, ap, ◌∙◌, subst, Result, Ok, Err}
use Rattle.std.specs.Prelude.{IfErr}
use Rattle.std.specs.List.{AllByRecursion}
use Rattle.environment.specs.Output.{Output}
use Rattle.h2_streams.specs.Calls.{Moment}
use Rattle.h2_events.specs.declared.event.RecvEvent.{RecvEvent}
use Rattle.h2_events.specs.declared.port.Ready.{Ready}
use Rattle.h2_recv.specs.Receiving.{State}
use Rattle.h2_send.specs.Conditions.{IsClosed, answer_of, readiness}
use Rattle.h2_send.specs.Inputs.{Input, Speech}
use Rattle.h2_send.specs.Offers.{ready_on}
use Rattle.h2_send.specs.Port.{Progress, line_of}
use Rattle.h2_send.specs.declared.condition.Condition.{Condition}
use Rattle.h2_send.specs.declared.condition.Condition.TheVariants as condition
use Rattle.h2_send.specs.declared.fault.WireFaultOut.{WireFaultOut}
use Rattle.h2_send.specs.declared.fault.WireFaultOut.TheVariants as faults
use Rattle.book_port.specs.Ports.{PortView}
use Rattle.grpc_requests.specs.declared.request.Request.{Request}
use Rattle.stream_workers.specs.Feeders.{Started}
use Rattle.session_core.specs.declared.served.Served.{Served}
use Rattle.session_core.specs.declared.waiting.Waiting.{Waiting}
use Rattle.session_core.specs.Reading.{IsReadPartly}
use Rattle.session_core.specs.Rounds.{HadTurns}
use Rattle.session_core.specs.Runs.{IsAtRest}
use Rattle.session_core.specs.Saying.{AreBehind}
use Rattle.session_core.specs.Serving.{Start, Standing, deeds_in, standing_of}
use Rattle.session_core.specs.inner.Ends.{how_of}
use Rattle.session_core.specs.inner.Feeders.{AreOfFeeders, IsServedBeside, FeederState, feeder_state}
use Rattle.session_core.specs.inner.Places.{HasCome, HasEnded, IsTurning, IsWriting, Stands, course_of, place_of}
use Rattle.session_core.specs.inner.Sending.{WireHistory, DoesWhereOpen, Finds, HasGrown, Reads, SaysNothing, TellsFault}
use Rattle.session_core.proofs.Behind.{still_behind}
use Rattle.session_core.proofs.Sides.{side_kept}
use Rattle.session_core.proofs.Others.{free_accepted, one_rests, turned_still}
use Rattle.session_core.proofs.Reading.{wholly_read}
use Rattle.session_core.proofs.WentOn.{IsClosedBeside, IsStable, StandsBeside, all_went_on, others_went_on}
use Rattle.session_core.proofs.Words.{writes_on}

-- ---- what is closed

pub closed_is : (state : Condition) (fault : WireFaultOut) → answer_of state ≡ Err fault → IsClosed state
closed_is condition.New fault is = absurd cc
closed_is condition.Open fault is = absurd cc
closed_is condition.Finished fault is = tt
closed_is condition.WriteFault fault is = tt
closed_is condition.NoMemory fault is = tt

-- the fault that closed it is told where it was open before
pub told_fault : (done : Result (Unit {0}) WireFaultOut) (fault : WireFaultOut) (P : WireFaultOut → Type 0) → done ≡ Err fault → IfErr done P → P fault
told_fault done fault P is told = subst (λ (d : Result (Unit {0}) WireFaultOut). IfErr d P) is told

pub no_overflow : (state : Condition) → answer_of state ≡ Err faults.Overflow → ⊥
no_overflow condition.New is = absurd cc
no_overflow condition.Open is = absurd cc
no_overflow condition.Finished is = absurd cc
no_overflow condition.WriteFault is = absurd cc
no_overflow condition.NoMemory is = absurd cc

-- ---- sides

module _ (fed : List ℕ) (start : Start) (output : Output) (octets : List ℕ) (before after : WireHistory) (started : List Started) (grown : HasGrown before after) (silent : SaysNothing before after) where
  pub stands_kept : (recv : State) (at : Progress) (heard : List RecvEvent) (waiting : List Waiting) (owed : List Request) (standing : Standing)
      → Stands fed start output octets (place_of recv at (feeder_state before started) heard waiting owed standing) → Stands fed start output octets (place_of recv at (feeder_state after started) heard waiting owed standing)
  stands_kept recv at heard waiting owed standing s = record {
    moments = s.moments;
    reader = s.reader;
    recv_is = s.recv_is;
    frames = s.frames;
    writing = s.writing;
    heard_is = s.heard_is;
    served = record { served = s.served.served; beside = side_kept start.port before after started waiting s.moments (deeds_in s.served.served) grown silent s.served.beside };
  }

  pub ended_kept : (how : _) (at : Progress) (port : PortView) (readings : List ℕ) → HasEnded how fed start octets output at (feeder_state before started) port readings → HasEnded how fed start octets output at (feeder_state after started) port readings
  ended_kept how at port readings e = record {
    moments = e.moments;
    inputs = e.inputs;
    waiting = e.waiting;
    owed = e.owed;
    calls = e.calls;
    round = e.round;
    partly = e.partly;
    made = e.made;
    served = record { served = e.served.served; beside = side_kept start.port before after started e.waiting e.moments (deeds_in e.served.served) grown silent e.served.beside };
    settled = e.settled;
    accepted = e.accepted;
    left = e.left;
  }

  pub turning_kept : (done due : List Served) (recv : State) (at : Progress) (heard : List RecvEvent) (waiting : List Waiting) (port : PortView) (readings : List ℕ)
      → IsTurning fed start output octets done due recv at (feeder_state before started) heard waiting port readings → IsTurning fed start output octets done due recv at (feeder_state after started) heard waiting port readings
  turning_kept done due recv at heard waiting port readings t = record {
    round = t.round;
    stands = stands_kept recv at heard waiting [] (standing_of port (done ++ due) readings t.round) t.stands;
    behind = t.behind;
    turned = t.turned;
    not_yet = t.not_yet;
  }

  pub come_kept : (recv : State) (at : Progress) (heard : List RecvEvent) (event : RecvEvent) (waiting : List Waiting) (standing : Standing)
      → HasCome fed start output octets event (place_of recv at (feeder_state before started) heard waiting [] standing) → HasCome fed start output octets event (place_of recv at (feeder_state after started) heard waiting [] standing)
  come_kept recv at heard event waiting standing s = record {
    moments = s.moments;
    frame = s.frame;
    reader = s.reader;
    recv_is = s.recv_is;
    frames = s.frames;
    partly = s.partly;
    writing = s.writing;
    heard_is = s.heard_is;
    served = record { served = s.served.served; beside = side_kept start.port before after started waiting s.moments (deeds_in s.served.served) grown silent s.served.beside };
    rest = s.rest;
  }

-- ---- what is found

-- it was closed by this fault, and the session ends with it
abbrev pub EndsThere : List ℕ → Start → List ℕ → Output → FeederState → Standing → Progress → Type 0
EndsThere fed start octets output side at found =
    (fault : WireFaultOut) × (answer_of found.condition ≡ Err fault) × HasEnded (how_of fault) fed start octets output found side at.port at.readings

behind_stable : (waiting : List Waiting) → IsStable (λ is. AreBehind is waiting)
behind_stable waiting given on said free behind = still_behind on said given waiting free behind

module _ (fed : List ℕ) (start : Start) (output : Output) (octets : List ℕ) (before after : WireHistory) (old found : Progress) (finds : Finds before.others after.others old found) (theirs : AreOfFeeders fed after) (side : FeederState) where
  closed_ends : (moments : List Moment) (waiting : List Waiting) (owed : List Request) (at : Standing) (fault : WireFaultOut) → answer_of found.condition ≡ Err fault → IsReadPartly octets moments
      → IsClosedBeside fed start octets moments output side (course_of moments old.inputs waiting owed at) fault found → HasEnded (how_of fault) fed start octets output found side at.port at.readings
  closed_ends moments waiting owed at faults.Overflow is partly c = absurd (no_overflow found.condition is)
  closed_ends moments waiting owed at faults.WriteFault is partly c = record {
    moments = moments;
    inputs = c.inputs;
    waiting = waiting;
    owed = owed;
    calls = at.calls;
    round = at.round;
    partly = partly;
    made = partly;
    served = c.served;
    settled = tt;
    accepted = c.accepted;
    left = c.left;
  }
  closed_ends moments waiting owed at faults.NoMemory is partly c = record {
    moments = moments;
    inputs = c.inputs;
    waiting = waiting;
    owed = owed;
    calls = at.calls;
    round = at.round;
    partly = partly;
    made = partly;
    served = c.served;
    settled = tt;
    accepted = c.accepted;
    left = c.left;
  }

  -- what was served, with something that holds of the inputs beside
  course_found : (moments : List Moment) (waiting : List Waiting) (owed : List Request) (at : Standing) (E : List Input → Type 0) → IsStable E → IsReadPartly octets moments → IsWriting output old
      → IsServedBeside fed start side (course_of moments old.inputs waiting owed at) → E old.inputs
      → StandsBeside fed start output side (course_of moments old.inputs waiting owed at) E found ⊎ EndsThere fed start octets output side at found
  course_found moments waiting owed at E stable partly writing served more =
      by_either (others_went_on fed start octets moments output side (course_of moments old.inputs waiting owed at) E stable before after old found finds theirs (record { writing = writing; served = served; more = more })) where
        by_either : StandsBeside fed start output side (course_of moments old.inputs waiting owed at) E found ⊎ ((fault : WireFaultOut) × (answer_of found.condition ≡ Err fault) × IsClosedBeside fed start octets moments output side (course_of moments old.inputs waiting owed at) fault found)
            → StandsBeside fed start output side (course_of moments old.inputs waiting owed at) E found ⊎ EndsThere fed start octets output side at found
        by_either (inl stands) = inl stands
        by_either (inr (fault, is, closed)) = inr (fault, is, closed_ends moments waiting owed at fault is partly closed)

  module _ (recv : State) (heard : List RecvEvent) (waiting : List Waiting) where
    stands_with : (owed : List Request) (at : Standing) (E : List Input → Type 0) → IsStable E → Stands fed start output octets (place_of recv old side heard waiting owed at) → E old.inputs
        → (Stands fed start output octets (place_of recv found side heard waiting owed at) × E found.inputs) ⊎ EndsThere fed start octets output side at found
    stands_with owed at E stable s more =
        by_either (course_found s.moments waiting owed at E stable (wholly_read octets s.moments s.reader s.frames) s.writing s.served more) where
          by_either : StandsBeside fed start output side (course_of s.moments old.inputs waiting owed at) E found ⊎ EndsThere fed start octets output side at found
              → (Stands fed start output octets (place_of recv found side heard waiting owed at) × E found.inputs) ⊎ EndsThere fed start octets output side at found
          by_either (inr ended) = inr ended
          by_either (inl now) = inl (
            record {
              moments = s.moments;
              reader = s.reader;
              recv_is = s.recv_is;
              frames = s.frames;
              writing = now.writing;
              heard_is = s.heard_is;
              served = now.served;
            },
            now.more,
          )

    -- with what waits behind octets of its stream
    pub stands_found : (owed : List Request) (at : Standing) (still : List Waiting) → Stands fed start output octets (place_of recv old side heard waiting owed at) → AreBehind old.inputs still
        → (Stands fed start output octets (place_of recv found side heard waiting owed at) × AreBehind found.inputs still) ⊎ EndsThere fed start octets output side at found
    stands_found owed at still s behind = stands_with owed at (λ is. AreBehind is still) (behind_stable still) s behind

    pub turning_found : (done due : List Served) (port : PortView) (readings : List ℕ) → (t : IsTurning fed start output octets done due recv old side heard waiting port readings)
        → IsTurning fed start output octets done due recv found side heard waiting port readings ⊎ EndsThere fed start octets output side (standing_of port (done ++ due) readings t.round) found
    turning_found done due port readings t =
        by_either (stands_with [] (standing_of port (done ++ due) readings t.round) (λ is. AreBehind is waiting × AllByRecursion (HadTurns t.round is) done)
        (λ given on said free both. (still_behind on said given waiting free both.0, turned_still t.round on given said done free both.1)) t.stands (t.behind, t.turned)) where
          by_either : (Stands fed start output octets (place_of recv found side heard waiting [] (standing_of port (done ++ due) readings t.round)) × (AreBehind found.inputs waiting × AllByRecursion (HadTurns t.round found.inputs) done))
              ⊎ EndsThere fed start octets output side (standing_of port (done ++ due) readings t.round) found
              → IsTurning fed start output octets done due recv found side heard waiting port readings ⊎ EndsThere fed start octets output side (standing_of port (done ++ due) readings t.round) found
          by_either (inr ended) = inr ended
          by_either (inl (stands, both)) = inl (record { round = t.round; stands = stands; behind = both.0; turned = both.1; not_yet = t.not_yet })

    pub come_found : (event : RecvEvent) (at : Standing) → HasCome fed start output octets event (place_of recv old side heard waiting [] at)
        → HasCome fed start output octets event (place_of recv found side heard waiting [] at) ⊎ EndsThere fed start octets output side at found
    come_found event at s =
        by_either (course_found s.moments waiting [] at (λ is. IsAtRest [] is waiting at) (λ given on said free rest. one_rests [] given waiting at on said free rest) s.partly s.writing s.served s.rest) where
          by_either : StandsBeside fed start output side (course_of s.moments old.inputs waiting [] at) (λ is. IsAtRest [] is waiting at) found ⊎ EndsThere fed start octets output side at found
              → HasCome fed start output octets event (place_of recv found side heard waiting [] at) ⊎ EndsThere fed start octets output side at found
          by_either (inr ended) = inr ended
          by_either (inl now) = inl (record {
            moments = s.moments;
            frame = s.frame;
            reader = s.reader;
            recv_is = s.recv_is;
            frames = s.frames;
            partly = s.partly;
            writing = now.writing;
            heard_is = s.heard_is;
            served = now.served;
            rest = now.more;
          })

-- the sending half alone, and what waits behind octets of its stream
pub writing_found : (fed : List ℕ) (output : Output) (waiting : List Waiting) (before after : WireHistory) (old found : Progress) → Finds before.others after.others old found → AreOfFeeders fed after → IsWriting output old → AreBehind old.inputs waiting
    → (IsWriting output found × AreBehind found.inputs waiting) ⊎ ((fault : WireFaultOut) × (answer_of found.condition ≡ Err fault))
writing_found fed output waiting before after old found finds theirs writing behind =
    by_either (all_went_on fed (λ p. IsWriting output p × AreBehind p.inputs waiting) (λ fault p. Unit {0})
    (λ old new on said own accepts takes both. (
      writes_on output old new (Speech on said) both.0 accepts takes,
      subst (λ (is : List Input). AreBehind is waiting) (sym takes.1) (still_behind on said old.inputs waiting (free_accepted on said (line_of old) accepts) both.1),
    ))
    (λ old new on said own accepts takes both. tt) (λ old new on said own accepts takes both. tt) before after old found finds theirs (writing, behind)) where
      by_either : (IsWriting output found × AreBehind found.inputs waiting) ⊎ ((fault : WireFaultOut) × (answer_of found.condition ≡ Err fault) × Unit {0})
          → (IsWriting output found × AreBehind found.inputs waiting) ⊎ ((fault : WireFaultOut) × (answer_of found.condition ≡ Err fault))
      by_either (inl both) = inl both
      by_either (inr (fault, is, nothing)) = inr (fault, is)

-- ---- where the session only looks

pub same_ready : {a b : Ready} → ◌≡◌ {A = Result Ready WireFaultOut} (Ok a) (Ok b) → a ≡ b
same_ready q = cc

pub not_both : {A : Type 0} {a : A} {b : WireFaultOut} → ◌≡◌ {A = Result A WireFaultOut} (Ok a) (Err b) → ⊥
not_both q = cc

pub same_fault : {A : Type 0} {a b : WireFaultOut} → ◌≡◌ {A = Result A WireFaultOut} (Err a) (Err b) → a ≡ b
same_fault q = cc

module _ (fed : List ℕ) (before after : WireHistory) (old new : Progress) (stream : ℕ) (answer : Result Ready WireFaultOut)
    (d : DoesWhereOpen before.others after.others old new (Reads stream answer) (TellsFault old answer)) (theirs : AreOfFeeders fed after) where
  open_ready : d.found.condition ≡ condition.Open → (ready : Ready) → answer ≡ Ok ready → (new ≡ d.found) × (ready_on stream (line_of new).streams ≡ ready)
  open_ready is_open ready is =
      let does = d.does is_open in
      (does.1, ap (λ (p : Progress). ready_on stream (line_of p).streams) does.1 ∙ sym (ap (λ (k : Condition). readiness k stream (line_of d.found)) is_open) ∙ same_ready (sym does.0 ∙ is))

  open_tells_no_fault : d.found.condition ≡ condition.Open → (fault : WireFaultOut) → answer ≡ Err fault → ⊥
  open_tells_no_fault is_open fault is = not_both (sym (d.does is_open).0 ∙ is)

  closed_tells : old.condition ≡ condition.Open → (fault : WireFaultOut) → answer_of d.found.condition ≡ Err fault → (new ≡ d.found) × (answer ≡ Err fault)
  closed_tells was_open fault is =
      let told = d.tells (closed_is d.found.condition fault is) in
      (told.0, told_fault (answer_of d.found.condition) fault (λ f. answer ≡ Err f) is (told.1 was_open))

  -- it was open, and its answer is how the stream stands
  pub writing_looked : (output : Output) (waiting : List Waiting) (ready : Ready) → answer ≡ Ok ready → IsWriting output old → AreBehind old.inputs waiting → IsWriting output new × AreBehind new.inputs waiting
  writing_looked output waiting ready is writing behind = by_either (writing_found fed output waiting before after old d.found d.finds theirs writing behind) where
    by_either : (IsWriting output d.found × AreBehind d.found.inputs waiting) ⊎ ((fault : WireFaultOut) × (answer_of d.found.condition ≡ Err fault)) → IsWriting output new × AreBehind new.inputs waiting
    by_either (inl both) = subst (λ (p : Progress). IsWriting output p × AreBehind p.inputs waiting) (sym (open_ready both.0.is_open ready is).0) both
    by_either (inr (fault, closed)) = absurd (not_both (sym is ∙ (closed_tells writing.is_open fault closed).1))

  pub ready_looked : (output : Output) (waiting : List Waiting) (ready : Ready) → answer ≡ Ok ready → IsWriting output old → AreBehind old.inputs waiting → ready_on stream (line_of new).streams ≡ ready
  ready_looked output waiting ready is writing behind = by_either (writing_found fed output waiting before after old d.found d.finds theirs writing behind) where
    by_either : (IsWriting output d.found × AreBehind d.found.inputs waiting) ⊎ ((fault : WireFaultOut) × (answer_of d.found.condition ≡ Err fault)) → ready_on stream (line_of new).streams ≡ ready
    by_either (inl both) = (open_ready both.0.is_open ready is).1
    by_either (inr (fault, closed)) = absurd (not_both (sym is ∙ (closed_tells writing.is_open fault closed).1))

  module _ (start : Start) (output : Output) (octets : List ℕ) (started : List Started) (grown : HasGrown before after) (silent : SaysNothing before after) (recv : State) (heard : List RecvEvent) (waiting : List Waiting) where
    pub stands_looked : (owed : List Request) (at : Standing) (still : List Waiting) (ready : Ready) → answer ≡ Ok ready
        → Stands fed start output octets (place_of recv old (feeder_state before started) heard waiting owed at) → AreBehind old.inputs still
        → Stands fed start output octets (place_of recv new (feeder_state after started) heard waiting owed at) × AreBehind new.inputs still × (ready_on stream (line_of new).streams ≡ ready)
    stands_looked owed at still ready is s behind = by_either (stands_found fed start output octets before after old d.found d.finds theirs (feeder_state before started) recv heard waiting owed at still s behind) where
      by_either : (Stands fed start output octets (place_of recv d.found (feeder_state before started) heard waiting owed at) × AreBehind d.found.inputs still) ⊎ EndsThere fed start octets output (feeder_state before started) at d.found
          → Stands fed start output octets (place_of recv new (feeder_state after started) heard waiting owed at) × AreBehind new.inputs still × (ready_on stream (line_of new).streams ≡ ready)
      by_either (inl (now, later)) =
          let at_new = open_ready now.writing.is_open ready is in (
            stands_kept fed start output octets before after started grown silent recv new heard waiting owed at (subst (λ (p : Progress). Stands fed start output octets (place_of recv p (feeder_state before started) heard waiting owed at)) (sym at_new.0) now),
            subst (λ (p : Progress). AreBehind p.inputs still) (sym at_new.0) later,
            at_new.1,
          )
      by_either (inr (fault, closed, ended)) = absurd (not_both (sym is ∙ (closed_tells s.writing.is_open fault closed).1))

    pub stands_ends : (owed : List Request) (at : Standing) (fault : WireFaultOut) → answer ≡ Err fault
        → Stands fed start output octets (place_of recv old (feeder_state before started) heard waiting owed at)
        → HasEnded (how_of fault) fed start octets output new (feeder_state after started) at.port at.readings
    stands_ends owed at fault is s = by_either (stands_found fed start output octets before after old d.found d.finds theirs (feeder_state before started) recv heard waiting owed at [] s tt) where
      by_either : (Stands fed start output octets (place_of recv d.found (feeder_state before started) heard waiting owed at) × Unit {0}) ⊎ EndsThere fed start octets output (feeder_state before started) at d.found
          → HasEnded (how_of fault) fed start octets output new (feeder_state after started) at.port at.readings
      by_either (inl (now, later)) = absurd (open_tells_no_fault now.writing.is_open fault is)
      by_either (inr (other, closed, ended)) =
          let told = closed_tells s.writing.is_open other closed in
          ended_kept fed start output octets before after started grown silent (how_of fault) new at.port at.readings
          (subst (λ (p : Progress). HasEnded (how_of fault) fed start octets output p (feeder_state before started) at.port at.readings) (sym told.0)
          (subst (λ (f : WireFaultOut). HasEnded (how_of f) fed start octets output d.found (feeder_state before started) at.port at.readings) (same_fault {A = Ready} (sym told.1 ∙ is)) ended))

    pub turning_looked : (done due : List Served) (port : PortView) (readings : List ℕ) (ready : Ready) → answer ≡ Ok ready
        → IsTurning fed start output octets done due recv old (feeder_state before started) heard waiting port readings
        → IsTurning fed start output octets done due recv new (feeder_state after started) heard waiting port readings × (ready_on stream (line_of new).streams ≡ ready)
    turning_looked done due port readings ready is t = by_either (turning_found fed start output octets before after old d.found d.finds theirs (feeder_state before started) recv heard waiting done due port readings t) where
      by_either : IsTurning fed start output octets done due recv d.found (feeder_state before started) heard waiting port readings ⊎ EndsThere fed start octets output (feeder_state before started) (standing_of port (done ++ due) readings t.round) d.found
          → IsTurning fed start output octets done due recv new (feeder_state after started) heard waiting port readings × (ready_on stream (line_of new).streams ≡ ready)
      by_either (inl now) =
          let at_new = open_ready now.stands.writing.is_open ready is in (
            turning_kept fed start output octets before after started grown silent done due recv new heard waiting port readings
                (subst (λ (p : Progress). IsTurning fed start output octets done due recv p (feeder_state before started) heard waiting port readings) (sym at_new.0) now),
            at_new.1,
          )
      by_either (inr (fault, closed, ended)) = absurd (not_both (sym is ∙ (closed_tells t.stands.writing.is_open fault closed).1))

    pub turning_ends : (done due : List Served) (port : PortView) (readings : List ℕ) (fault : WireFaultOut) → answer ≡ Err fault
        → IsTurning fed start output octets done due recv old (feeder_state before started) heard waiting port readings
        → HasEnded (how_of fault) fed start octets output new (feeder_state after started) port readings
    turning_ends done due port readings fault is t = stands_ends [] (standing_of port (done ++ due) readings t.round) fault is t.stands
