-- A connection begins and ends.
use Rattle.std.proofs.Common.{◌≡◌, ◌⊎◌, inl, inr, true, false, ℕ, List, [], ◌∷◌, map, refl, sym, ap, ◌∙◌, subst, arith, append-nil, Result, Ok, Err}
use Rattle.std.specs.Prelude.{IfErr, MatchResult}
use Rattle.std.specs.List.{AllByRecursion}
use Rattle.environment.specs.Input.{Input as Source, Read}
use Rattle.environment.specs.Output.{Output, Wrote}
use Rattle.environment.proofs.Pieces.{Read-nothing}
use Rattle.base_kinds.specs.Schema.{SchemaNode}
use Rattle.h2_windows.specs.Written.{octets_of}
use Rattle.h2_windows.proofs.Fronts.{wrote_both}
use Rattle.h2_events.specs.declared.event.RecvEvent.{RecvEvent}
use Rattle.h2_recv.specs.Receiving.{State, ReadsWithEnds, new_reader}
use Rattle.h2_recv.proofs.RunLemmas.{part_of_nothing}
use Rattle.h2_send.specs.Inputs.{Input}
use Rattle.h2_streams.specs.Calls.{reads_of}
use Rattle.h2_events.specs.Items as item
use Rattle.h2_send.specs.Accepting.{AreAccepted}
use Rattle.h2_send.specs.Lines.{first_line}
use Rattle.h2_send.specs.Outputs.{frames_of}
use Rattle.h2_send.specs.Conditions.{IsClosed, answer_of}
use Rattle.h2_send.specs.Port.{Progress}
use Rattle.h2_send.specs.Wires.{WireView, Does, greeted, progress_of}
use Rattle.h2_send.specs.declared.condition.Condition.{Condition}
use Rattle.h2_send.specs.declared.condition.Condition.TheVariants as condition
use Rattle.h2_send.specs.declared.fault.WireFaultOut.{WireFaultOut}
use Rattle.h2_send.specs.declared.fault.WireFaultOut.TheVariants as faults
use Rattle.h2_send.proofs.Orders.{output_ends}
use Rattle.book_port.specs.Ports.{PortView}
use Rattle.grpc_requests.specs.declared.request.Request.{Request}
use Rattle.stream_workers.specs.Feeders.{Started, is_fed}
use Rattle.session_core.specs.declared.how.How.{How}
use Rattle.session_core.specs.declared.how.How.TheVariants as hows
use Rattle.session_core.specs.declared.waiting.Waiting.{Waiting}
use Rattle.session_core.specs.Deeds.{handed_in}
use Rattle.session_core.specs.Reading.{IsConnectionError, IsGiven, IsMadeOf}
use Rattle.session_core.specs.Runs.{IsGivenBeside, IsOfOutput, IsSettled, Outside, SessionRun, outside_of, start_of}
use Rattle.session_core.specs.Serving.{Course, Standing, Start, deeds_in, standing_of, without_fed}
use Rattle.session_core.specs.Writing.{IsLostLast, IsWritten}
use Rattle.session_core.specs.inner.Ends.{code_of, how_of}
use Rattle.session_core.specs.inner.Feeders.{AreOfFeeders, HasFeeders, IsHandedBy, IsServedBeside, FeederState, feeder_state}
use Rattle.session_core.specs.inner.Places.{CanClose, HasFinished, HasStopped, IsLeft, IsOpen, IsServing, IsWriting, course_of, place_of}
use Rattle.session_core.specs.inner.Sending.{WireHistory, Closes, DoesWhereOpen, HasGrown, IsOneMore, SaysNothing, TellsDone, spoken}
use Rattle.session_core.proofs.Looking.{closed_is, ended_kept, no_overflow}
use Rattle.session_core.proofs.Others.{course_with, one_rests}
use Rattle.session_core.proofs.WentOn.{IsClosedBeside, IsStable, StandsBeside, closed_found, others_went_on}

-- ---- the end

-- the frames that went out, where no end was to be written
quiet : (inputs : List Input) (output : Output) (old new : Progress) → Wrote (octets_of (frames_of inputs)) output old.output → Wrote [] old.output new.output → Wrote (octets_of (frames_of inputs)) output new.output
quiet inputs output old new wrote nothing =
    wrote_both output old.output new.output (octets_of (frames_of inputs)) [] (octets_of (frames_of inputs)) (sym (append-nil (octets_of (frames_of inputs)))) wrote nothing

-- a write of nothing doesn't fail
no_failure : (old new : Progress) (fault : WireFaultOut) → Closes 0 (Err fault) old new → ⊥
no_failure old new faults.WriteFault closes = let less = closes.0.1 in omega (arith, less)
no_failure old new faults.NoMemory never = never
no_failure old new faults.Overflow never = never

-- ---- a source that gave what it gave

given_beside : (fed : List ℕ) (how : How) (octets : List ℕ) (old new : Source) → IsGiven how octets old new → IsGivenBeside fed how octets old new
given_beside [] how octets old new given = given
given_beside (stream ∷ fed) how octets old new given = inl given

-- and a fault of the sending half that is told behind it
given_then : (fed : List ℕ) (how other : How) (octets : List ℕ) (old new : Source) → (fed ≡ [] → ⊥) → IsOfOutput other → (Read octets old new → IsGiven other octets old new) → IsGiven how octets old new → IsGivenBeside fed other octets old new
given_then [] how other octets old new some of_output reads given = absurd (some refl)
given_then (stream ∷ fed) hows.Closed other octets old new some of_output reads given = inl (reads given.all)
given_then (stream ∷ fed) hows.Cut other octets old new some of_output reads given = inl (reads given.all)
given_then (stream ∷ fed) hows.ReadFault other octets old new some of_output reads given = inr (of_output, given)
given_then (stream ∷ fed) (hows.Protocol code) other octets old new some of_output reads given = inl (reads given)
given_then (stream ∷ fed) hows.WriteFault other octets old new some of_output reads given = inl (reads given)
given_then (stream ∷ fed) hows.Spent other octets old new some of_output reads given = inl (reads given)
given_then (stream ∷ fed) hows.NoMemory other octets old new some of_output reads given = inl (reads given)

-- ---- what is at rest rests

settled_on : (how : How) (owed : List Request) (waiting : List Waiting) (standing : Standing) → IsStable (λ is. IsSettled how owed is waiting standing)
settled_on hows.WriteFault owed waiting standing given on said free settled = tt
settled_on hows.NoMemory owed waiting standing given on said free settled = tt
settled_on hows.Closed owed waiting standing given on said free settled = one_rests owed given waiting standing on said free settled
settled_on hows.Cut owed waiting standing given on said free settled = one_rests owed given waiting standing on said free settled
settled_on hows.ReadFault owed waiting standing given on said free settled = one_rests owed given waiting standing on said free settled
settled_on hows.Spent owed waiting standing given on said free settled = one_rests owed given waiting standing on said free settled
settled_on (hows.Protocol code) owed waiting standing given on said free settled = one_rests owed given waiting standing on said free settled

none_lost : (how : How) (inputs given : List Input) → given ≡ inputs → IsLostLast how inputs given
none_lost how inputs given same = record { lost = []; whole = same ∙ sym (append-nil inputs); one = omega arith; none = λ never. refl }

lost_last : (inputs : List Input) (at : Progress) → IsOneMore inputs at → IsLostLast hows.NoMemory inputs at.inputs
lost_last inputs at (lost, whole, one) = record { lost = lost; whole = whole; one = one; none = λ never. absurd (never refl) }

-- ---- the end, behind what feeders said

module _ (fed : List ℕ) (schema : List SchemaNode) (before : Outside) (source : Source) (side : FeederState) (port : PortView) (readings : List ℕ) where
  abbrev Finished : How → Progress → Type 0
  Finished how at = HasFinished how fed schema before source at side port readings

  module _ (how : How) (old : Progress) (s : HasStopped how fed schema before source old side port readings) where
    abbrev standing : Standing
    standing = standing_of port s.ended.calls readings s.ended.round

    abbrev served_with : List Input → Type 0
    served_with inputs = IsServedBeside fed (start_of schema before) side (course_of s.ended.moments inputs s.ended.waiting s.ended.owed standing)

    finished : (other : How) (inputs : List Input) (new : Progress) → IsGivenBeside fed other s.octets before.input source → IsMadeOf other s.octets s.ended.moments inputs → AreAccepted first_line inputs
        → served_with inputs → IsSettled other s.ended.owed inputs s.ended.waiting standing → IsWritten other s.octets s.ended.moments inputs before.output new.output → IsLostLast other inputs new.inputs → IsClosed new.condition → Finished other new
    finished other inputs new given made accepted served settled written lost closed = record {
      octets = s.octets;
      moments = s.ended.moments;
      inputs = inputs;
      waiting = s.ended.waiting;
      owed = s.ended.owed;
      calls = s.ended.calls;
      round = s.ended.round;
      given = given;
      partly = s.ended.partly;
      made = made;
      accepted = accepted;
      served = served;
      settled = settled;
      written = written;
      lost = lost;
      closed = closed;
    }

    -- as it stopped, where nothing was done any more
    as_it_was : (inputs : List Input) → inputs ≡ s.ended.inputs → (new : Progress) → IsWritten how s.octets s.ended.moments s.ended.inputs before.output new.output → IsLostLast how s.ended.inputs new.inputs → IsClosed new.condition → Finished how new
    as_it_was inputs same new written lost closed =
        finished how s.ended.inputs new (given_beside fed how s.octets before.input source s.given) s.ended.made s.ended.accepted s.ended.served s.ended.settled written lost closed

    -- a feeder met the fault that closed it
    closed_by : (fault : WireFaultOut) (found new : Progress) → new ≡ found → answer_of found.condition ≡ Err fault → (course : Course) → course ≡ course_of s.ended.moments old.inputs s.ended.waiting s.ended.owed standing
        → IsClosedBeside fed (start_of schema before) s.octets s.ended.moments before.output side course fault found → Finished (how_of fault) new
    closed_by faults.Overflow found new same is course at c = absurd (no_overflow found.condition is)
    closed_by faults.WriteFault found new same is course at c =
        subst (λ (p : Progress). Finished hows.WriteFault p) (sym same)
        (finished hows.WriteFault c.inputs found (given_then fed how hows.WriteFault s.octets before.input source c.some tt (λ all. all) s.given) s.ended.partly c.accepted
        (subst (λ (k : Course). IsServedBeside fed (start_of schema before) side (course_with k c.inputs)) at c.served) tt c.left.2 (none_lost hows.WriteFault c.inputs found.inputs c.left.1) (closed_is found.condition faults.WriteFault is))
    closed_by faults.NoMemory found new same is course at c =
        subst (λ (p : Progress). Finished hows.NoMemory p) (sym same)
        (finished hows.NoMemory c.inputs found (given_then fed how hows.NoMemory s.octets before.input source c.some tt (λ all. all) s.given) s.ended.partly c.accepted
        (subst (λ (k : Course). IsServedBeside fed (start_of schema before) side (course_with k c.inputs)) at c.served) tt c.left.1 (lost_so c.left.0) (closed_is found.condition faults.NoMemory is)) where
          lost_so : IsOpen c.inputs found ⊎ ((found.condition ≡ condition.NoMemory) × IsOneMore c.inputs found) → IsLostLast hows.NoMemory c.inputs found.inputs
          lost_so (inl is_open) = none_lost hows.NoMemory c.inputs found.inputs is_open.inputs_are
          lost_so (inr more) = lost_last c.inputs found more.1

    -- ---- an open sending half is ended

    module _ (aside aside_later : WireHistory) (new : Progress) (done : Result (Unit {0}) WireFaultOut) (d : DoesWhereOpen aside.others aside_later.others old new (Closes (code_of how) done) (TellsDone done)) (theirs : AreOfFeeders fed aside_later) where
      abbrev ends_as : Result (Unit {0}) WireFaultOut → Type 0
      ends_as r = MatchResult r (λ ok. Finished how new) (λ fault. Finished (how_of fault) new)

      told_of_fault : (fault : WireFaultOut) → answer_of d.found.condition ≡ Err fault → (new ≡ d.found) × (done ≡ Err fault)
      told_of_fault fault is =
          let told = d.tells (closed_is d.found.condition fault is) in
          (told.0, told.1 ∙ is)

      -- it stood open, and what feeders said behind its last inputs changes nothing
      from_open : (CanClose s.ended.inputs before.output old) → ((inputs : List Input) → IsMadeOf how s.octets s.ended.moments inputs)
          → ((found : Progress) (result : Result (Unit {0}) WireFaultOut) → IsWriting before.output found → served_with found.inputs → IsSettled how s.ended.owed found.inputs s.ended.waiting standing → Closes (code_of how) result found new → ends_as result)
          → ends_as done
      from_open can made closes =
          let same = can.0.inputs_are in
          let settled = settled_on how s.ended.owed s.ended.waiting standing in
          by_either (others_went_on fed (start_of schema before) s.octets s.ended.moments before.output side (course_of s.ended.moments old.inputs s.ended.waiting s.ended.owed standing) (λ is. IsSettled how s.ended.owed is s.ended.waiting standing) settled
          aside aside_later old d.found d.finds theirs (record {
            writing = record {
              is_open = can.0.condition_is;
              accepted = subst (λ (is : List Input). AreAccepted first_line is) (sym same) s.ended.accepted;
              wrote = subst (λ (is : List Input). Wrote (octets_of (frames_of is)) before.output old.output) (sym same) can.1;
            };
            served = subst (λ (is : List Input). served_with is) (sym same) s.ended.served;
            more = subst (λ (is : List Input). IsSettled how s.ended.owed is s.ended.waiting standing) (sym same) s.ended.settled;
          })) where
            by_either : StandsBeside fed (start_of schema before) before.output side (course_of s.ended.moments old.inputs s.ended.waiting s.ended.owed standing) (λ is. IsSettled how s.ended.owed is s.ended.waiting standing) d.found
                ⊎ ((fault : WireFaultOut) × (answer_of d.found.condition ≡ Err fault) × IsClosedBeside fed (start_of schema before) s.octets s.ended.moments before.output side (course_of s.ended.moments old.inputs s.ended.waiting s.ended.owed standing) fault d.found)
                → ends_as done
            by_either (inl now) = closes d.found done now.writing now.served now.more (d.does now.writing.is_open)
            by_either (inr (fault, is, c)) =
                let told = told_of_fault fault is in
                subst ends_as (sym told.1) (closed_by fault d.found new told.0 is (course_of s.ended.moments old.inputs s.ended.waiting s.ended.owed standing) refl c)

      -- it was closed: nothing is done
      from_closed : (state : Condition) → old.condition ≡ state → IsClosed state → (Finished how old) → (IfErr (answer_of state) (λ fault. how ≡ how_of fault)) → ends_as done
      from_closed state is is_closed run told_how =
          let same = nothing_found_more in
          let told = d.tells (subst IsClosed (sym is ∙ ap (λ (p : Progress). p.condition) (sym same)) is_closed) in
          subst ends_as (sym (told.1 ∙ ap (λ (p : Progress). answer_of p.condition) same ∙ ap answer_of is))
          (by_answer (answer_of state) told_how (subst (λ (p : Progress). Finished how p) (sym (told.0 ∙ same)) run)) where
            nothing_found_more : d.found ≡ old
            nothing_found_more = closed_found fed aside aside_later old d.found d.finds theirs (subst IsClosed (sym is) is_closed)

            by_answer : (r : Result (Unit {0}) WireFaultOut) → IfErr r (λ fault. how ≡ how_of fault) → Finished how new → ends_as r
            by_answer (Ok ok) at now = now
            by_answer (Err fault) at now = subst (λ (h : How). Finished h new) at now

  -- what was written where no end was to be written
  quiet_end : (how : How) (old : Progress) (s : HasStopped how fed schema before source old side port readings) (new : Progress) → ((inputs : List Input) (out : Output) → Wrote (octets_of (frames_of inputs)) before.output out → IsWritten how s.octets s.ended.moments inputs before.output out)
      → ((inputs : List Input) → IsMadeOf how s.octets s.ended.moments inputs)
      → (found : Progress) (result : Result (Unit {0}) WireFaultOut) → IsWriting before.output found → served_with how old s found.inputs → IsSettled how s.ended.owed found.inputs s.ended.waiting (standing how old s)
      → Closes 0 result found new → MatchResult result (λ ok. Finished how new) (λ fault. Finished (how_of fault) new)
  quiet_end how old s new writes made found (Err fault) writing served settled closes = absurd (no_failure found new fault closes)
  quiet_end how old s new writes made found (Ok tt) writing served settled closes =
      finished how old s how found.inputs new (given_beside fed how s.octets before.input source s.given) (made found.inputs) writing.accepted served settled
      (writes found.inputs new.output (quiet found.inputs before.output found new writing.wrote closes.0)) (none_lost how found.inputs new.inputs closes.1) (subst IsClosed (sym closes.2) tt)

  -- the end that the peer's error asks for
  farewell_end : (code : ℕ) (old : Progress) (s : HasStopped (hows.Protocol code) fed schema before source old side port readings) (new : Progress) → ((inputs : List Input) → IsConnectionError s.octets s.ended.moments inputs code)
      → (found : Progress) (result : Result (Unit {0}) WireFaultOut) → IsWriting before.output found → served_with (hows.Protocol code) old s found.inputs → IsSettled (hows.Protocol code) s.ended.owed found.inputs s.ended.waiting (standing (hows.Protocol code) old s)
      → Closes code result found new → MatchResult result (λ ok. Finished (hows.Protocol code) new) (λ fault. Finished (how_of fault) new)
  farewell_end code old s new error found (Ok tt) writing served settled closes =
      finished (hows.Protocol code) old s (hows.Protocol code) found.inputs new (given_beside fed (hows.Protocol code) s.octets before.input source s.given) (error found.inputs) writing.accepted served settled
      (output_ends found.inputs code before.output found.output new.output writing.wrote closes.0) (none_lost (hows.Protocol code) found.inputs new.inputs closes.1) (subst IsClosed (sym closes.2) tt)
  farewell_end code old s new error found (Err faults.WriteFault) writing served settled closes =
      finished (hows.Protocol code) old s hows.WriteFault found.inputs new (given_beside fed hows.WriteFault s.octets before.input source s.given) s.ended.partly writing.accepted served tt
      (inr (inr (record {
        code = code;
        error = error found.inputs;
        between = found.output;
        wrote = writing.wrote;
        failed = closes.0;
      }))) (none_lost hows.WriteFault found.inputs new.inputs closes.1) (subst IsClosed (sym closes.2) tt)
  farewell_end code old s new error found (Err faults.NoMemory) writing served settled never = absurd never
  farewell_end code old s new error found (Err faults.Overflow) writing served settled never = absurd never

  module _ (old : Progress) (aside aside_later : WireHistory) (new : Progress) (done : Result (Unit {0}) WireFaultOut) (theirs : AreOfFeeders fed aside_later) where
    abbrev Ends : How → Type 0
    Ends how = MatchResult done (λ ok. Finished how new) (λ fault. Finished (how_of fault) new)

    abbrev CallDoes : How → Type 0
    CallDoes how = DoesWhereOpen aside.others aside_later.others old new (Closes (code_of how) done) (TellsDone done)

    pub ends_so : (how : How) → HasStopped how fed schema before source old side port readings → CallDoes how → Ends how
    ends_so how s d = by_left how s d s.ended.left where
      by_left : (how : How) (s : HasStopped how fed schema before source old side port readings) → CallDoes how → IsLeft how s.octets s.ended.moments s.ended.inputs before.output old → Ends how
      by_left hows.Closed s d can = from_open hows.Closed old s aside aside_later new done d theirs can (λ inputs. s.ended.made) (quiet_end hows.Closed old s new (λ inputs out wrote. wrote) (λ inputs. s.ended.made))
      by_left hows.Cut s d can = from_open hows.Cut old s aside aside_later new done d theirs can (λ inputs. s.ended.made) (quiet_end hows.Cut old s new (λ inputs out wrote. wrote) (λ inputs. s.ended.made))
      by_left hows.ReadFault s d can = from_open hows.ReadFault old s aside aside_later new done d theirs can (λ inputs. s.ended.made) (quiet_end hows.ReadFault old s new (λ inputs out wrote. wrote) (λ inputs. s.ended.made))
      by_left hows.Spent s d can = from_open hows.Spent old s aside aside_later new done d theirs can (λ inputs. s.ended.made) (quiet_end hows.Spent old s new (λ inputs out wrote. wrote) (λ inputs. s.ended.made))
      by_left (hows.Protocol code) s d (inl (can, error)) = from_open (hows.Protocol code) old s aside aside_later new done d theirs can error (farewell_end code old s new error)
      by_left (hows.Protocol code) s d (inr has) =
          from_closed (hows.Protocol code) old s aside aside_later new done d theirs condition.Finished has.0 tt
          (as_it_was (hows.Protocol code) old s s.ended.inputs refl old has.2 (none_lost (hows.Protocol code) s.ended.inputs old.inputs has.1) (subst IsClosed (sym has.0) tt)) tt
      by_left hows.WriteFault s d left =
          from_closed hows.WriteFault old s aside aside_later new done d theirs condition.WriteFault left.0 tt
          (as_it_was hows.WriteFault old s s.ended.inputs refl old left.2 (none_lost hows.WriteFault s.ended.inputs old.inputs left.1) (subst IsClosed (sym left.0) tt)) refl
      by_left hows.NoMemory s d (inl is_open, wrote) = from_open hows.NoMemory old s aside aside_later new done d theirs (is_open, wrote) (λ inputs. s.ended.made) (quiet_end hows.NoMemory old s new (λ inputs out now. now) (λ inputs. s.ended.made))
      by_left hows.NoMemory s d (inr (is, more), wrote) =
          from_closed hows.NoMemory old s aside aside_later new done d theirs condition.NoMemory is tt
          (as_it_was hows.NoMemory old s s.ended.inputs refl old wrote (lost_last s.ended.inputs old more) (subst IsClosed (sym is) tt)) refl

-- what goes with feeders, as the call leaves it
pub finished_kept : (how : How) (fed : List ℕ) (schema : List SchemaNode) (outside : Outside) (source : Source) (at : Progress) (before after : WireHistory) (started : List Started) (port : PortView) (readings : List ℕ) → HasGrown before after → SaysNothing before after
    → HasStopped how fed schema outside source at (feeder_state before started) port readings → HasStopped how fed schema outside source at (feeder_state after started) port readings
finished_kept how fed schema outside source at before after started port readings grown silent s = record {
  octets = s.octets;
  given = s.given;
  ended = ended_kept fed (start_of schema outside) outside.output s.octets before after started grown silent how at port readings s.ended;
}

-- ---- alone

abbrev pub no_side : FeederState
no_side = record { name = []; own = []; started = [] }

pub none_handed : (handed : List ℕ) → handed ≡ [] → AllByRecursion (λ stream. is_fed [] stream ≡ true) handed
none_handed handed none = subst (λ (h : List ℕ). AllByRecursion (λ stream. is_fed [] stream ≡ true) h) (sym none) tt

-- where there are no feeders, all ends are told
pub all_told : (reads : List item.Read) → without_fed [] reads ≡ reads
all_told [] = refl
all_told (item.Event event ∷ reads) = ap (λ (rest : List item.Read). item.Event event ∷ rest) (all_told reads)
all_told (item.Ended stream ∷ reads) = ap (λ (rest : List item.Read). item.Ended stream ∷ rest) (all_told reads)

pub alone_so : (how : How) (schema : List SchemaNode) (before : Outside) (source : Source) (at : Progress) (side : FeederState) (port : PortView) (readings : List ℕ) → side.started ≡ [] → HasFinished how [] schema before source at side port readings
    → SessionRun schema before how (outside_of source at.output port readings)
alone_so how schema before source at side port readings none f = record {
  octets = f.octets;
  moments = f.moments;
  inputs = f.inputs;
  waiting = f.waiting;
  owed = f.owed;
  calls = f.calls;
  round = f.round;
  given = f.given;
  partly = f.partly;
  made = f.made;
  accepted = f.accepted;
  served = f.served.served;
  settled = f.settled;
  written = f.written;
  untold = all_told (reads_of f.moments);
  handed = none_handed (handed_in (deeds_in f.served.served)) (f.served.beside.streams ∙ ap (λ (all : List Started). map (λ one. one.stream) all) none);
}

-- ---- the beginning

nothing_read : ReadsWithEnds new_reader [] [] new_reader
nothing_read = record {
  reaches = record {
    behind = [];
    opened = record { goes_on = refl; now_is = refl; behind_is = refl };
    leading = refl;
    calls = refl;
  };
  part = part_of_nothing;
}

begins_beside : (port : PortView) (side : FeederState) → side.started ≡ [] → ((stream : ℕ) → spoken stream side.own ≡ []) → HasFeeders port side [] [] []
begins_beside port side none silent = record {
  silent = λ stream said. record { unsaid = silent stream; none = refl; untold = refl };
  streams = ap (λ (all : List Started). map (λ one. one.stream) all) (sym none);
  handed = subst (λ (all : List Started). AllByRecursion (IsHandedBy side.name port []) all) (sym none) tt;
}

nothing_asked : (fed : List ℕ) (start : Start) (side : FeederState) → side.started ≡ [] → ((stream : ℕ) → spoken stream side.own ≡ []) → IsServedBeside fed start side (course_of [] [] [] [] (standing_of start.port [] start.readings []))
nothing_asked fed start side none silent = record {
  beside = begins_beside start.port side none silent;
  served = record {
    rounds = [];
    last = [];
    given = refl;
    frame = tt;
    whole = tt;
    recent = tt;
    asked = refl;
    done = refl;
    timely = tt;
    clock = sym (append-nil start.readings);
    said = λ stream own. inl refl;
    opened = λ stream. tt;
    one_order = refl;
  };
}

module _ {S : Type 0} (seen : S → Output) (schema : List SchemaNode) (source : Source) (port : PortView) (readings : List ℕ) where
  -- nothing was given
  inputs_none : (old new : WireView S) → old.inputs ≡ [] → Does seen false condition.Open [] (greeted old.line) (Ok tt) old new → new.inputs ≡ []
  inputs_none old new none does = ap (λ (w : WireView S). w.inputs) does.1 ∙ append-nil old.inputs ∙ none

  pub begins : (recv : State) (count : ℕ) (heard : List RecvEvent) (old new : WireView S) → recv ≡ Ok new_reader → count ≡ 0 → old.condition ≡ condition.New → old.inputs ≡ [] → heard ≡ []
      → (old.condition ≡ condition.New → Does seen false condition.Open [] (greeted old.line) (Ok tt) old new)
      → (fed : List ℕ) (side : FeederState) → side.started ≡ [] → ((stream : ℕ) → spoken stream side.own ≡ [])
      → IsServing fed schema (outside_of source (seen old.sink) port readings) source count (place_of recv (progress_of seen new) side heard [] [] (standing_of port [] readings []))
  begins recv count heard old new recv_is counted is_new none silent greets fed side none_started unsaid =
      let does = greets is_new in
      let inputs_are = inputs_none old new none does in
      let start = start_of schema (outside_of source (seen old.sink) port readings) in
      record {
        octets = [];
        all = Read-nothing source;
        counted = counted;
        rests = record {
          stands = record {
            moments = [];
            reader = new_reader;
            recv_is = recv_is;
            frames = nothing_read;
            writing = record {
              is_open = ap (λ (w : WireView S). w.condition) does.1;
              accepted = subst (λ (is : List Input). AreAccepted first_line is) (sym inputs_are) tt;
              wrote = subst (λ (is : List Input). Wrote (octets_of (frames_of is)) (seen old.sink) (seen new.sink)) (sym inputs_are) does.0;
            };
            heard_is = silent;
            served = subst (λ (is : List Input). IsServedBeside fed start side (course_of [] is [] [] (standing_of port [] readings []))) (sym inputs_are) (nothing_asked fed start side none_started unsaid);
          };
          rest = record { none_owed = refl; behind = tt; turned = tt };
        };
      }

  greeting_fails : (fault : WireFaultOut) (old new : WireView S) → Does seen false condition.Open [] (greeted old.line) (Err fault) old new
      → SessionRun schema (outside_of source (seen old.sink) port readings) (how_of fault) (outside_of source (seen new.sink) port readings)
  greeting_fails faults.WriteFault old new does = record {
    octets = [];
    moments = [];
    inputs = [];
    waiting = [];
    owed = [];
    calls = [];
    round = [];
    given = Read-nothing source;
    partly = record { front = []; behind = []; joined = refl; frames = (new_reader, nothing_read) };
    made = record { front = []; behind = []; joined = refl; frames = (new_reader, nothing_read) };
    accepted = tt;
    served = (nothing_asked [] (start_of schema (outside_of source (seen old.sink) port readings)) no_side refl (λ stream. refl)).served;
    settled = tt;
    written = inl (record { none = refl; failed = does.0 });
    untold = refl;
    handed = none_handed _ (nothing_asked [] (start_of schema (outside_of source (seen old.sink) port readings)) no_side refl (λ stream. refl)).beside.streams;
  }
  greeting_fails faults.NoMemory old new does = absurd (not_true does.0) where
    not_true : false ≡ true → ⊥
    not_true q = cc
  greeting_fails faults.Overflow old new does = absurd does

  pub begins_badly : (fault : WireFaultOut) (old new : WireView S) → old.condition ≡ condition.New
      → (old.condition ≡ condition.New → Does seen false condition.Open [] (greeted old.line) (Err fault) old new)
      → SessionRun schema (outside_of source (seen old.sink) port readings) (how_of fault) (outside_of source (seen new.sink) port readings)
  begins_badly fault old new is_new greets = greeting_fails fault old new (greets is_new)
