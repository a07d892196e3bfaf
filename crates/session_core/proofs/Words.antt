-- Something is said on a stream, or what waits there has gone.
use Rattle.std.proofs.Common.{◌≡◌, ◌⊎◌, refl, inl, inr, ℕ, List, [], ◌∷◌, ◌++◌, Bool, true, false, sym, ap, ◌∙◌, subst, cond, append-nil, append_assoc, Result, Ok, Err}
use Rattle.std.specs.Prelude.{Option, IfErr}
use Rattle.environment.specs.Output.{Output, Wrote, FailedWithin}
use Rattle.h2_windows.specs.Written.{octets_of}
use Rattle.h2_events.specs.declared.event.RecvEvent.{RecvEvent}
use Rattle.h2_events.specs.declared.said.Said.{Said}
use Rattle.h2_events.specs.declared.port.Took.{Took}
use Rattle.h2_events.specs.declared.port.Took.TheVariants as took
use Rattle.h2_events.specs.declared.port.Ready.TheVariants.{Busy, Gone}
use Rattle.h2_events.specs.Items.{is_last}
use Rattle.h2_streams.specs.Calls.{Moment, ended}
use Rattle.h2_recv.specs.declared.reader.Reader.{Reader}
use Rattle.h2_recv.specs.Receiving.{State, ReadsWithEnds, new_reader, reader_ended, state_ended}
use Rattle.h2_recv.proofs.PieceLemmas.{end_told}
use Rattle.h2_send.specs.Inputs.{Input, Speech}
use Rattle.h2_send.specs.Accepting.{AreAccepted, IsAccepted}
use Rattle.h2_send.specs.Lines.{first_line}
use Rattle.h2_send.specs.Outputs.{frames_of}
use Rattle.h2_send.specs.Offers.{ready_on}
use Rattle.h2_send.specs.Acting.{handled}
use Rattle.h2_send.specs.Conditions.{IsClosed, answer_of, took_of}
use Rattle.h2_send.specs.Port.{Progress, Takes, line_of}
use Rattle.h2_send.specs.declared.condition.Condition.{Condition}
use Rattle.h2_send.specs.declared.condition.Condition.TheVariants as condition
use Rattle.h2_send.specs.declared.fault.WireFaultOut.{WireFaultOut}
use Rattle.h2_send.specs.declared.fault.WireFaultOut.TheVariants as faults
use Rattle.h2_send.proofs.Holding.{accepted_more}
use Rattle.h2_send.proofs.Orders.{output_grows}
use Rattle.grpc_requests.specs.declared.request.Request.{Request}
use Rattle.session_core.specs.declared.how.How.TheVariants as hows
use Rattle.session_core.specs.declared.waiting.Waiting.{Waiting}
use Rattle.session_core.specs.Saying.{AreBehind}
use Rattle.session_core.specs.Serving.{Start, Standing}
use Rattle.session_core.specs.Writing.{IsBroken}
use Rattle.session_core.specs.inner.Ends.{how_of}
use Rattle.session_core.specs.inner.Feeders.{IsServedBeside, FeederState}
use Rattle.session_core.specs.inner.Places.{HasStarved, IsWriting, Stands, HasEnded, course_of, place_of}
use Rattle.session_core.specs.inner.Sending.{DoesWhereOpen, Says, Starves, TellsFault, TellsTook}
use Rattle.session_core.specs.inner.Steps.{Speaks, done_of, told_of}
use Rattle.session_core.proofs.Behind.{free_says, gone_says, still_behind, behind_more, none_waits_there}
use Rattle.session_core.proofs.Found.{nothing_found}
use Rattle.session_core.proofs.Others.{free_accepted}
use Rattle.session_core.proofs.Reading.{wholly_read}
use Rattle.session_core.proofs.Serving.{ends_with, events_at_end, speech_served, gone_served}

-- ---- what saying it comes to

spoken_so : (stream : ℕ) (said : Said) (answer : Took) (found new : Progress) → Says stream said answer found new → Speaks stream said (done_of answer) found new
spoken_so stream said took.Taken found new says = says
spoken_so stream said took.WriteFault found new says = says
spoken_so stream said took.NoMemory found new says = inr says
spoken_so stream said took.Busy found new says = inl says.1
spoken_so stream said took.Gone found new says = inl says.1

fault_told : (state : Condition) (answer : Took) → IfErr (answer_of state) (λ fault. answer ≡ took_of (Err fault)) → IfErr (answer_of state) (λ fault. done_of answer ≡ Err fault)
fault_told condition.New answer is = is
fault_told condition.Open answer is = is
fault_told condition.Finished answer is = is
fault_told condition.WriteFault answer is = ap done_of is
fault_told condition.NoMemory answer is = ap done_of is

pub speaks_as : (stream : ℕ) (said other : Said) (answer : Took) (result : Result (Unit {0}) WireFaultOut) (before after : List (Option Input)) (old new : Progress) → said ≡ other → result ≡ done_of answer
    → DoesWhereOpen before after old new (Says stream other answer) (TellsTook old answer) → DoesWhereOpen before after old new (Speaks stream said result) (TellsFault old result)
speaks_as stream said other answer result before after old new same is d =
    subst (λ (s : Said). DoesWhereOpen before after old new (Speaks stream s result) (TellsFault old result)) (sym same)
    (subst (λ (r : Result (Unit {0}) WireFaultOut). DoesWhereOpen before after old new (Speaks stream other r) (TellsFault old r)) (sym is) (record {
      found = d.found;
      finds = d.finds;
      does = λ is_open. spoken_so stream other answer d.found new (d.does is_open);
      tells = λ is_closed. let c = d.tells is_closed in (c.0, λ was_open. fault_told d.found.condition answer (c.1 was_open));
    }))

-- where there is no memory for it, nothing is asked of the sending half
pub unsaid : (stream : ℕ) (said : Said) (others : List (Option Input)) (at : Progress) → DoesWhereOpen others others at at (Speaks stream said (Err faults.NoMemory)) (TellsFault {T = Unit {0}} at (Err faults.NoMemory))
unsaid stream said others at = record {
  found = at;
  finds = nothing_found others at;
  does = λ is_open. inl refl;
  tells = λ is_closed. (refl, λ was_open. absurd (subst IsClosed was_open is_closed));
}

-- ---- an open sending half

pub writes_on : (output : Output) (found new : Progress) (input : Input) → IsWriting output found → IsAccepted input (line_of found) → Takes took.Taken input found new → IsWriting output new
writes_on output found new input writing accepts takes = record {
  is_open = takes.2;
  accepted = subst (λ (is : List Input). AreAccepted first_line is) (sym takes.1) (accepted_more first_line found.inputs input writing.accepted accepts);
  wrote = subst (λ (is : List Input). Wrote (octets_of (frames_of is)) output new.output) (sym takes.1) (output_grows found.inputs input output found.output new.output writing.wrote takes.0);
}

pub breaks_off : (octets : List ℕ) (moments : List Moment) (output : Output) (found new : Progress) (input : Input) → IsWriting output found
    → FailedWithin (octets_of (handled input (line_of found)).frames) found.output new.output
    → IsBroken octets moments (found.inputs ++ input ∷ []) output new.output
breaks_off octets moments output found new input writing failed = inr (inl (record {
  before = found.inputs;
  last = input;
  split = refl;
  between = found.output;
  wrote = writing.wrote;
  failed = failed;
}))

abbrev reader_after : Bool → ℕ → Reader → Reader
reader_after last stream reader = cond last (reader_ended stream reader) reader

abbrev ends_if : Bool → ℕ → List Moment
ends_if last stream = cond last (ended stream ∷ []) []

frames_after : (last : Bool) (stream : ℕ) (octets : List ℕ) (moments : List Moment) (reader : Reader) → ReadsWithEnds new_reader octets moments reader
    → ReadsWithEnds new_reader octets (moments ++ ends_if last stream) (reader_after last stream reader)
frames_after true stream octets moments reader frames = end_told new_reader reader octets moments stream frames
frames_after false stream octets moments reader frames = subst (λ (ms : List Moment). ReadsWithEnds new_reader octets ms reader) (sym (append-nil moments)) frames

told_so : (last : Bool) (stream : ℕ) (recv : State) (reader : Reader) → recv ≡ Ok reader → cond last (state_ended stream recv) recv ≡ Ok (reader_after last stream reader)
told_so true stream recv reader is = ap (state_ended stream) is
told_so false stream recv reader is = is

-- ---- the loop over what waits: `items` were not tried yet

module _ (fed : List ℕ) (start : Start) (output : Output) (octets : List ℕ) (side : FeederState) where
  pub split_first : (recv : State) (sending : Progress) (heard : List RecvEvent) (still items rest : List Waiting) (w : Waiting) (owed : List Request) (at : Standing)
      → items ≡ w ∷ rest → Stands fed start output octets (place_of recv sending side heard (still ++ items) owed at)
      → Stands fed start output octets (place_of recv sending side heard (still ++ w ∷ rest) owed at)
  split_first recv sending heard still items rest w owed at first stands =
      subst (λ (ws : List Waiting). Stands fed start output octets (place_of recv sending side heard (still ++ ws) owed at)) first stands

  word_said : (recv next : State) (found new : Progress) (heard : List RecvEvent) (still rest : List Waiting) (w : Waiting) (owed : List Request) (at : Standing)
      → AreBehind found.inputs still → Speaks w.stream w.said (Ok tt) found new → next ≡ told_of w.stream w.said recv
      → Stands fed start output octets (place_of recv found side heard (still ++ w ∷ rest) owed at)
      → Stands fed start output octets (place_of next new side heard (still ++ rest) owed at)
  word_said recv next found new heard still rest w owed at behind speaks told stands =
      let input = Speech w.stream w.said in
      let free = free_accepted w.stream w.said (line_of found) speaks.0 in
      let served = speech_served fed start side stands.moments found.inputs still rest w owed at (none_waits_there w.stream found.inputs still free behind) (free_says w.stream found.inputs free) stands.served in
      record {
        moments = stands.moments ++ ends_with w.stream w.said;
        reader = reader_after (is_last w.said) w.stream stands.reader;
        recv_is = told ∙ told_so (is_last w.said) w.stream recv stands.reader stands.recv_is;
        frames = frames_after (is_last w.said) w.stream octets stands.moments stands.reader stands.frames;
        writing = writes_on output found new input stands.writing speaks.0 speaks.1;
        heard_is = stands.heard_is ∙ sym (events_at_end stands.moments w.stream w.said);
        served = subst (λ (is : List Input). IsServedBeside fed start side (course_of (stands.moments ++ ends_with w.stream w.said) is (still ++ rest) owed at)) (sym speaks.1.1) served;
      }

  pub word_taken : (recv next : State) (found new : Progress) (heard : List RecvEvent) (still items rest : List Waiting) (w : Waiting) (owed : List Request) (at : Standing)
      → items ≡ w ∷ rest → AreBehind found.inputs still → Speaks w.stream w.said (Ok tt) found new → next ≡ told_of w.stream w.said recv
      → Stands fed start output octets (place_of recv found side heard (still ++ items) owed at)
      → Stands fed start output octets (place_of next new side heard (still ++ rest) owed at)
  word_taken recv next found new heard still items rest w owed at first behind speaks told stands =
      word_said recv next found new heard still rest w owed at behind speaks told (split_first recv found heard still items rest w owed at first stands)

  pub word_gone : (recv : State) (sending : Progress) (heard : List RecvEvent) (still items rest : List Waiting) (w : Waiting) (owed : List Request) (at : Standing)
      → items ≡ w ∷ rest → ready_on w.stream (line_of sending).streams ≡ Gone
      → Stands fed start output octets (place_of recv sending side heard (still ++ items) owed at)
      → Stands fed start output octets (place_of recv sending side heard (still ++ rest) owed at)
  word_gone recv sending heard still items rest w owed at first gone stands =
      let s = split_first recv sending heard still items rest w owed at first stands in
      record {
        moments = s.moments;
        reader = s.reader;
        recv_is = s.recv_is;
        frames = s.frames;
        writing = s.writing;
        heard_is = s.heard_is;
        served = gone_served fed start side s.moments sending.inputs still rest w owed at (gone_says w.stream sending.inputs gone) s.served;
      }

  pub word_kept : (recv : State) (sending : Progress) (heard : List RecvEvent) (still more items rest : List Waiting) (w : Waiting) (owed : List Request) (at : Standing)
      → items ≡ w ∷ rest → more ≡ still ++ w ∷ []
      → Stands fed start output octets (place_of recv sending side heard (still ++ items) owed at)
      → Stands fed start output octets (place_of recv sending side heard (more ++ rest) owed at)
  word_kept recv sending heard still more items rest w owed at first grown stands =
      let s = split_first recv sending heard still items rest w owed at first stands in
      subst (λ (ws : List Waiting). Stands fed start output octets (place_of recv sending side heard ws owed at))
      (sym (ap (λ (m : List Waiting). m ++ rest) grown ∙ append_assoc still (w ∷ []) rest)) s

  -- ---- exits

  -- memory is wanting: what was served so far stands
  pub starved : (recv : State) (found new : Progress) (heard : List RecvEvent) (waiting : List Waiting) (owed : List Request) (at : Standing)
      → (new ≡ found) ⊎ Starves found new
      → Stands fed start output octets (place_of recv found side heard waiting owed at)
      → HasEnded hows.NoMemory fed start octets output new side at.port at.readings
  starved recv found new heard waiting owed at either stands = record {
    moments = stands.moments;
    inputs = found.inputs;
    waiting = waiting;
    owed = owed;
    calls = at.calls;
    round = at.round;
    partly = wholly_read octets stands.moments stands.reader stands.frames;
    made = wholly_read octets stands.moments stands.reader stands.frames;
    served = stands.served;
    settled = tt;
    accepted = stands.writing.accepted;
    left = left_so found new either stands.writing;
  } where
    left_so : (found new : Progress) → (new ≡ found) ⊎ Starves found new → IsWriting output found → HasStarved found.inputs output new
    left_so found new (inl same) writing =
        subst (λ (p : Progress). HasStarved found.inputs output p) (sym same) (inl (record { condition_is = writing.is_open; inputs_are = refl }), writing.wrote)
    left_so found new (inr starves) writing =
        (inr (starves.1, starves.2), subst (λ (o : Output). Wrote (octets_of (frames_of found.inputs)) output o) (sym starves.0) writing.wrote)

  word_breaks : (recv : State) (found new : Progress) (heard : List RecvEvent) (still rest : List Waiting) (w : Waiting) (owed : List Request) (at : Standing)
      → AreBehind found.inputs still → Speaks w.stream w.said (Err faults.WriteFault) found new
      → Stands fed start output octets (place_of recv found side heard (still ++ w ∷ rest) owed at)
      → HasEnded hows.WriteFault fed start octets output new side at.port at.readings
  word_breaks recv found new heard still rest w owed at behind speaks stands =
      let free = free_accepted w.stream w.said (line_of found) speaks.0 in
      let frames = frames_after (is_last w.said) w.stream octets stands.moments stands.reader stands.frames in
      record {
        moments = stands.moments ++ ends_with w.stream w.said;
        inputs = found.inputs ++ Speech w.stream w.said ∷ [];
        waiting = still ++ rest;
        owed = owed;
        calls = at.calls;
        round = at.round;
        partly = wholly_read octets (stands.moments ++ ends_with w.stream w.said) (reader_after (is_last w.said) w.stream stands.reader) frames;
        made = wholly_read octets (stands.moments ++ ends_with w.stream w.said) (reader_after (is_last w.said) w.stream stands.reader) frames;
        served = speech_served fed start side stands.moments found.inputs still rest w owed at (none_waits_there w.stream found.inputs still free behind) (free_says w.stream found.inputs free) stands.served;
        settled = tt;
        accepted = accepted_more first_line found.inputs (Speech w.stream w.said) stands.writing.accepted speaks.0;
        left = (speaks.1.2, speaks.1.1, breaks_off octets (stands.moments ++ ends_with w.stream w.said) output found new (Speech w.stream w.said) stands.writing speaks.1.0);
      }

  pub word_fails : (fault : WireFaultOut) (recv : State) (found new : Progress) (heard : List RecvEvent) (still items rest : List Waiting) (w : Waiting) (owed : List Request) (at : Standing)
      → items ≡ w ∷ rest → AreBehind found.inputs still → Speaks w.stream w.said (Err fault) found new
      → Stands fed start output octets (place_of recv found side heard (still ++ items) owed at)
      → HasEnded (how_of fault) fed start octets output new side at.port at.readings
  word_fails faults.WriteFault recv found new heard still items rest w owed at first behind speaks stands =
      word_breaks recv found new heard still rest w owed at behind speaks (split_first recv found heard still items rest w owed at first stands)
  word_fails faults.NoMemory recv found new heard still items rest w owed at first behind speaks stands =
      starved recv found new heard (still ++ items) owed at speaks stands
  word_fails faults.Overflow recv found new heard still items rest w owed at first behind speaks stands = absurd speaks

-- ---- what waits is behind octets that wait

pub behind_taken : (found new : Progress) (still : List Waiting) (w : Waiting) → Speaks w.stream w.said (Ok tt) found new → AreBehind found.inputs still → AreBehind new.inputs still
behind_taken found new still w speaks behind =
    subst (λ (is : List Input). AreBehind is still) (sym speaks.1.1)
    (still_behind w.stream w.said found.inputs still (free_accepted w.stream w.said (line_of found) speaks.0) behind)

pub behind_kept : (sending : Progress) (still more : List Waiting) (w : Waiting) → more ≡ still ++ w ∷ [] → ready_on w.stream (line_of sending).streams ≡ Busy → AreBehind sending.inputs still → AreBehind sending.inputs more
behind_kept sending still more w grown busy behind =
    subst (λ (ws : List Waiting). AreBehind sending.inputs ws) (sym grown) (behind_more sending.inputs still w behind busy)

pub writing_taken : (output : Output) (found new : Progress) (w : Waiting) → IsWriting output found → Speaks w.stream w.said (Ok tt) found new → IsWriting output new
writing_taken output found new w writing speaks = writes_on output found new (Speech w.stream w.said) writing speaks.0 speaks.1
