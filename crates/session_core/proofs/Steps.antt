-- A frame is served: it is acted on, its request is answered, and all is said that can be.
use Rattle.std.proofs.Common.{◌≡◌, ◌⊎◌, inl, inr, ℕ, ◌==◌, List, [], ◌∷◌, ◌++◌, true, false, refl, sym, ap, ◌∙◌, subst, append-nil, Some, None, Result, Ok, Err}
use Rattle.environment.specs.Output.{Output, Wrote}
use Rattle.h2_frame.specs.Frames.{Frame}
use Rattle.h2_frame.specs.ErrorCodes.{flow_control_error}
use Rattle.h2_windows.specs.Written.{octets_of}
use Rattle.h2_events.specs.declared.event.RecvEvent.{RecvEvent}
use Rattle.h2_streams.specs.Calls.{Moment, read, events_of}
use Rattle.h2_streams.proofs.CallLemmas as calls
use Rattle.h2_recv.specs.Receiving.{State}
use Rattle.h2_send.specs.Inputs.{Input, Event}
use Rattle.h2_events.specs.declared.port.Took.TheVariants as took
use Rattle.h2_send.specs.Accepting.{IsAccepted}
use Rattle.h2_send.specs.Lines.{first_line, overflows}
use Rattle.h2_send.specs.Port.{Progress, Takes, line_of}
use Rattle.h2_send.specs.declared.fault.WireFaultOut.{WireFaultOut}
use Rattle.h2_send.specs.declared.fault.WireFaultOut.TheVariants as faults
use Rattle.grpc_requests.specs.declared.request.Asked.{Asked}
use Rattle.grpc_requests.specs.declared.request.Request.{Request}
use Rattle.grpc_requests.specs.Requests.{requests, requests_with}
use Rattle.grpc_requests.proofs.Tables.{requests_more}
use Rattle.session_core.specs.declared.reply.Reply.{Reply}
use Rattle.session_core.specs.declared.how.How.TheVariants as hows
use Rattle.session_core.specs.declared.waiting.Waiting.{Waiting}
use Rattle.stream_workers.specs.Feeders.{Started}
use Rattle.session_core.specs.Deeds.{Answering, Handing, IsDeed, Service}
use Rattle.session_core.specs.Serving.{Start, Standing, service_of, standing_of}
use Rattle.session_core.specs.inner.Feeders.{AreOfFeeders, IsServedBeside, FeederState, feeder_state}
use Rattle.h2_send.specs.Outputs.{frames_of}
use Rattle.session_core.specs.inner.Ends.{how_of}
use Rattle.h2_send.proofs.Holding.{accepted_more}
use Rattle.h2_send.proofs.Orders.{output_ends}
use Rattle.session_core.specs.Reading.{IsConnectionError}
use Rattle.session_core.specs.inner.Sending.{Acts, WireHistory, ClosesFor, DoesWhereOpen, HasGrown, SaysNothing, Starves, TellsDone}
use Rattle.session_core.specs.inner.Places.{IsServedAt, IsWriting, Stands, HasCome, HasEnded, course_of, place_of}
use Rattle.session_core.specs.inner.Steps.{IsHandedOver, IsReplied, IsRepliedBeside, deed_with, said_in}
use Rattle.session_core.specs.inner.Words.{words}
use Rattle.session_core.proofs.Turning.{and_not, no_turn_there}
use Rattle.session_core.specs.Rounds.{turns_on}
use Rattle.session_core.proofs.NewStreams.{opens_above}
use Rattle.session_core.proofs.Reading.{wholly_read}
use Rattle.session_core.proofs.Looking.{EndsThere, closed_is, come_found, come_kept, not_both, same_fault}
use Rattle.session_core.proofs.Serving.{event_served, deed_served, handing_served}
use Rattle.session_core.proofs.Words.{writes_on, breaks_off}

-- ---- a request is answered

module _ (fed : List ℕ) (start : Start) (side : FeederState) (moments : List Moment) (inputs : List Input) (waiting : List Waiting) (stream : ℕ) (asked : Asked) (owed : List Request) (reply : Reply) (here : Standing) (next : Service) (later : List ℕ)
    (none : (s : ℕ) → turns_on s here.round ≡ 0) (all : IsServedBeside fed start side (course_of moments inputs waiting (record { stream = stream; asked = asked } ∷ owed) here)) where
  abbrev At : FeederState → Type 0
  At aside = IsServedAt fed start moments inputs aside (waiting ++ words stream (said_in reply)) owed next.port next.calls later

  -- by a deed of the session's own
  replied_so : IsReplied start.schema stream asked reply (service_of here) next here.readings later → At side
  replied_so replied =
      let deed = deed_with stream (Answering asked) inputs replied.readings replied.turn replied.failed (said_in reply) in
      record {
        round = here.round ++ deed ∷ [];
        no_turns = λ s. no_turn_there s here.round deed (and_not (deed.stream == s) false refl) ∙ none s;
        served = deed_served fed start side moments inputs waiting owed here deed next later refl (replied.deed inputs) replied.clock refl all (λ is. absurd cc);
      }

pub request_handed : (fed : List ℕ) (start : Start) (side : FeederState) (moments : List Moment) (inputs : List Input) (waiting : List Waiting) (stream : ℕ) (asked : Asked) (owed : List Request) (reply : Reply) (here : Standing) (next : Service) (later : List ℕ) (started : List Started)
    → ((s : ℕ) → turns_on s here.round ≡ 0)
    → IsServedBeside fed start side (course_of moments inputs waiting (record { stream = stream; asked = asked } ∷ owed) here)
    → IsHandedOver side.name stream asked reply (service_of here) next here.readings later side.started started
    → IsServedAt fed start moments inputs (record side { started = started }) (waiting ++ words stream (said_in reply)) owed next.port next.calls later
request_handed fed start side moments inputs waiting stream asked owed reply here next later started none all h =
    let deed = deed_with stream (Handing h.body) inputs [] None false (said_in reply) in
    let first = subst (λ (a : Asked). IsServedBeside fed start side (course_of moments inputs waiting (record { stream = stream; asked = a } ∷ owed) here)) h.asked_is all in
    let hands : IsDeed start.schema deed (service_of here) next = record {
      plan = h.one.plan;
      begins = h.for_it.begins;
      streams = h.for_it.streams;
      plain = record { says = ap said_in h.nothing; unread = refl; unturned = refl; unfailed = refl; new_is = h.same };
    } in
    subst (λ (all_started : List Started). IsServedAt fed start moments inputs (record side { started = all_started }) (waiting ++ words stream (said_in reply)) owed next.port next.calls later) (sym h.more)
    (record {
      round = here.round ++ deed ∷ [];
      no_turns = λ s. no_turn_there s here.round deed (and_not (deed.stream == s) false refl) ∙ none s;
      served = handing_served fed start side moments inputs waiting owed here deed next later h.body h.one refl hands (h.unread ∙ sym (append-nil here.readings)) refl h.for_it first;
    })

pub request_answered : (fed : List ℕ) (start : Start) (side : FeederState) (moments : List Moment) (inputs : List Input) (waiting : List Waiting) (stream : ℕ) (asked : Asked) (owed : List Request) (reply : Reply) (here : Standing) (next : Service) (later : List ℕ) (started : List Started)
    → IsRepliedBeside side.name start.schema stream asked reply (service_of here) next here.readings later side.started started
    → ((s : ℕ) → turns_on s here.round ≡ 0)
    → IsServedBeside fed start side (course_of moments inputs waiting (record { stream = stream; asked = asked } ∷ owed) here)
    → IsServedAt fed start moments inputs (record side { started = started }) (waiting ++ words stream (said_in reply)) owed next.port next.calls later
request_answered fed start side moments inputs waiting stream asked owed reply here next later started (inl (replied, same)) none all =
    subst (λ (all_started : List Started). IsServedAt fed start moments inputs (record side { started = all_started }) (waiting ++ words stream (said_in reply)) owed next.port next.calls later) (sym same)
    (replied_so fed start side moments inputs waiting stream asked owed reply here next later none all replied)
request_answered fed start side moments inputs waiting stream asked owed reply here next later started (inr handed) none all =
    request_handed fed start side moments inputs waiting stream asked owed reply here next later started none all handed

-- ---- the frame is acted on

-- nothing is done in a round yet
abbrev pub anew : Standing → Standing
anew here = standing_of here.port here.calls here.readings []

module _ (fed : List ℕ) (start : Start) (output : Output) (octets : List ℕ) (event : RecvEvent) (side : FeederState) where
  served_then : (recv : State) (found : Progress) (heard : List RecvEvent) (waiting : List Waiting) (here : Standing)
      → (come : HasCome fed start output octets event (place_of recv found side heard waiting [] here)) → (owed : List Request) → requests (heard ++ event ∷ []) ≡ requests heard ++ owed
      → IsServedBeside fed start side (course_of (come.moments ++ read come.frame (Some event) ∷ []) (found.inputs ++ Event event ∷ []) waiting owed (anew here))
  served_then recv found heard waiting here come owed grown =
      event_served fed start side come.moments found.inputs waiting owed here come.frame event
      (subst (λ (es : List RecvEvent). requests (es ++ event ∷ []) ≡ requests es ++ owed) come.heard_is grown)
      (opens_above octets come.moments come.frame event come.reader come.frames) come.rest come.served

  pub acts_on : (recv : State) (found new : Progress) (heard : List RecvEvent) (waiting : List Waiting) (here : Standing)
      → (come : HasCome fed start output octets event (place_of recv found side heard waiting [] here))
      → Acts event (Ok tt) found new
      → (owed : List Request) → requests (heard ++ event ∷ []) ≡ requests heard ++ owed
      → IsServedBeside fed start side (course_of (come.moments ++ read come.frame (Some event) ∷ []) new.inputs waiting owed (anew here))
  acts_on recv found new heard waiting here come acts owed grown =
      subst (λ (is : List Input). IsServedBeside fed start side (course_of (come.moments ++ read come.frame (Some event) ∷ []) is waiting owed (anew here))) (sym acts.1.1)
      (served_then recv found heard waiting here come owed grown)

  writes_event : (found new : Progress) → IsWriting output found → Acts event (Ok tt) found new → IsWriting output new
  writes_event found new writing acts = writes_on output found new (Event event) writing acts.0 acts.1

  events_then : (heard : List RecvEvent) (moments : List Moment) (frame : Frame) → heard ≡ events_of moments → heard ++ event ∷ [] ≡ events_of (moments ++ read frame (Some event) ∷ [])
  events_then heard moments frame is = ap (λ (es : List RecvEvent). es ++ event ∷ []) is ∙ sym (calls.events_joined moments (read frame (Some event) ∷ []))

  -- it stands behind what was heard
  pub stands_then : (recv : State) (found new : Progress) (later_side : FeederState) (heard later : List RecvEvent) (waiting rest : List Waiting) (here next : Standing)
      → (come : HasCome fed start output octets event (place_of recv found side heard waiting [] here))
      → Acts event (Ok tt) found new
      → later ≡ heard ++ event ∷ []
      → IsServedBeside fed start later_side (course_of (come.moments ++ read come.frame (Some event) ∷ []) new.inputs rest [] next)
      → Stands fed start output octets (place_of recv new later_side later rest [] next)
  stands_then recv found new later_side heard later waiting rest here next come acts told served = record {
    moments = come.moments ++ read come.frame (Some event) ∷ [];
    reader = come.reader;
    recv_is = come.recv_is;
    frames = come.frames;
    writing = writes_event found new come.writing acts;
    heard_is = told ∙ events_then heard come.moments come.frame come.heard_is;
    served = served;
  }

  -- ---- exits

  pub hears_none : (recv : State) (found new : Progress) (later_side : FeederState) (heard : List RecvEvent) (waiting rest : List Waiting) (owed : List Request) (here next : Standing)
      → (come : HasCome fed start output octets event (place_of recv found side heard waiting [] here))
      → Acts event (Ok tt) found new
      → IsServedBeside fed start later_side (course_of (come.moments ++ read come.frame (Some event) ∷ []) new.inputs rest owed next)
      → HasEnded hows.NoMemory fed start octets output new later_side next.port next.readings
  hears_none recv found new later_side heard waiting rest owed here next come acts served =
      let writing = writes_event found new come.writing acts in
      let moments = come.moments ++ read come.frame (Some event) ∷ [] in
      record {
        moments = moments;
        inputs = new.inputs;
        waiting = rest;
        owed = owed;
        calls = next.calls;
        round = next.round;
        partly = wholly_read octets moments come.reader come.frames;
        made = wholly_read octets moments come.reader come.frames;
        served = served;
        settled = tt;
        accepted = writing.accepted;
        left = (inl (record { condition_is = writing.is_open; inputs_are = refl }), writing.wrote);
      }

  is_error : (recv : State) (found : Progress) (heard : List RecvEvent) (waiting : List Waiting) (here : Standing)
      → (come : HasCome fed start output octets event (place_of recv found side heard waiting [] here)) → overflows event (line_of found) ≡ true
      → IsConnectionError octets come.moments found.inputs flow_control_error
  is_error recv found heard waiting here come over =
      inr (inr (record { frame = come.frame; event = event; frames = (come.reader, come.frames); over = over; code_is = refl }))

  -- a window would be too large, and the end of the connection goes out
  too_wide : (recv : State) (found new : Progress) (heard : List RecvEvent) (waiting : List Waiting) (here : Standing)
      → HasCome fed start output octets event (place_of recv found side heard waiting [] here) → ClosesFor event (Ok tt) found new
      → HasEnded (hows.Protocol flow_control_error) fed start octets output new side here.port here.readings
  too_wide recv found new heard waiting here come over = record {
    moments = come.moments;
    inputs = found.inputs;
    waiting = waiting;
    owed = [];
    calls = here.calls;
    round = here.round;
    partly = come.partly;
    made = is_error recv found heard waiting here come over.0;
    served = come.served;
    settled = come.rest;
    accepted = come.writing.accepted;
    left = inr (over.1.2, over.1.1, output_ends found.inputs flow_control_error output found.output new.output come.writing.wrote over.1.0);
  }

  -- or a front of it
  too_wide_to_tell : (recv : State) (found new : Progress) (heard : List RecvEvent) (waiting : List Waiting) (here : Standing)
      → HasCome fed start output octets event (place_of recv found side heard waiting [] here) → ClosesFor event (Err faults.WriteFault) found new
      → HasEnded hows.WriteFault fed start octets output new side here.port here.readings
  too_wide_to_tell recv found new heard waiting here come over = record {
    moments = come.moments;
    inputs = found.inputs;
    waiting = waiting;
    owed = [];
    calls = here.calls;
    round = here.round;
    partly = come.partly;
    made = come.partly;
    served = come.served;
    settled = tt;
    accepted = come.writing.accepted;
    left = (
      over.1.2,
      over.1.1,
      inr (inr (record {
        code = flow_control_error;
        error = is_error recv found heard waiting here come over.0;
        between = found.output;
        wrote = come.writing.wrote;
        failed = over.1.0;
      })),
    );
  }

  breaks_at : (recv : State) (found new : Progress) (heard : List RecvEvent) (waiting : List Waiting) (here : Standing)
      → HasCome fed start output octets event (place_of recv found side heard waiting [] here)
      → IsAccepted (Event event) (line_of found) → Takes took.WriteFault (Event event) found new
      → HasEnded hows.WriteFault fed start octets output new side here.port here.readings
  breaks_at recv found new heard waiting here come accepts takes =
      let moments = come.moments ++ read come.frame (Some event) ∷ [] in
      record {
        moments = moments;
        inputs = found.inputs ++ Event event ∷ [];
        waiting = waiting;
        owed = requests_with heard event;
        calls = here.calls;
        round = [];
        partly = wholly_read octets moments come.reader come.frames;
        made = wholly_read octets moments come.reader come.frames;
        served = served_then recv found heard waiting here come (requests_with heard event) (requests_more heard event);
        settled = tt;
        accepted = accepted_more first_line found.inputs (Event event) come.writing.accepted accepts;
        left = (takes.2, takes.1, breaks_off octets moments output found new (Event event) come.writing takes.0);
      }

  starves_at : (recv : State) (found new : Progress) (heard : List RecvEvent) (waiting : List Waiting) (here : Standing)
      → HasCome fed start output octets event (place_of recv found side heard waiting [] here)
      → Starves found new
      → HasEnded hows.NoMemory fed start octets output new side here.port here.readings
  starves_at recv found new heard waiting here come starves = record {
    moments = come.moments;
    inputs = found.inputs;
    waiting = waiting;
    owed = [];
    calls = here.calls;
    round = here.round;
    partly = come.partly;
    made = come.partly;
    served = come.served;
    settled = tt;
    accepted = come.writing.accepted;
    left = (inr (starves.1, starves.2), subst (λ (o : Output). Wrote (octets_of (frames_of found.inputs)) output o) (sym starves.0) come.writing.wrote);
  }

  pub act_fails : (fault : WireFaultOut) (recv : State) (found new : Progress) (heard : List RecvEvent) (waiting : List Waiting) (here : Standing)
      → HasCome fed start output octets event (place_of recv found side heard waiting [] here)
      → Acts event (Err fault) found new
      → HasEnded (how_of fault) fed start octets output new side here.port here.readings
  act_fails faults.Overflow recv found new heard waiting here come acts = too_wide recv found new heard waiting here come acts
  act_fails faults.WriteFault recv found new heard waiting here come (inl acts) = breaks_at recv found new heard waiting here come acts.0 acts.1
  act_fails faults.WriteFault recv found new heard waiting here come (inr over) = too_wide_to_tell recv found new heard waiting here come over
  act_fails faults.NoMemory recv found new heard waiting here come acts = starves_at recv found new heard waiting here come acts

-- ---- behind what feeders said meanwhile

module _ (fed : List ℕ) (start : Start) (output : Output) (octets : List ℕ) (event : RecvEvent) (before after : WireHistory) (old new : Progress) (answer : Result (Unit {0}) WireFaultOut)
    (d : DoesWhereOpen before.others after.others old new (Acts event answer) (TellsDone answer)) (grown : HasGrown before after) (silent : SaysNothing before after) (theirs : AreOfFeeders fed after) (started : List Started)
    (recv : State) (heard : List RecvEvent) (waiting : List Waiting) (here : Standing) (come : HasCome fed start output octets event (place_of recv old (feeder_state before started) heard waiting [] here)) where
  abbrev come_at : Progress → Type 0
  come_at p = HasCome fed start output octets event (place_of recv p (feeder_state after started) heard waiting [] here)

  found_so : come_at d.found ⊎ EndsThere fed start octets output (feeder_state after started) here d.found
  found_so = come_found fed start output octets before after old d.found d.finds theirs (feeder_state after started) recv heard waiting event here
      (come_kept fed start output octets before after started grown silent recv old heard event waiting here come)

  pub come_open : answer ≡ Ok tt → come_at d.found × Acts event (Ok tt) d.found new
  come_open is = by_either found_so where
    by_either : come_at d.found ⊎ EndsThere fed start octets output (feeder_state after started) here d.found → come_at d.found × Acts event (Ok tt) d.found new
    by_either (inl now) = (now, subst (λ (r : Result (Unit {0}) WireFaultOut). Acts event r d.found new) is (d.does now.writing.is_open))
    by_either (inr (fault, closed, ended)) = absurd (not_both {A = Unit {0}} (sym is ∙ (d.tells (closed_is d.found.condition fault closed)).1 ∙ closed))

  pub act_ends : (fault : WireFaultOut) → answer ≡ Err fault → HasEnded (how_of fault) fed start octets output new (feeder_state after started) here.port here.readings
  act_ends fault is = by_either found_so where
    by_either : come_at d.found ⊎ EndsThere fed start octets output (feeder_state after started) here d.found → HasEnded (how_of fault) fed start octets output new (feeder_state after started) here.port here.readings
    by_either (inl now) =
        act_fails fed start output octets event (feeder_state after started) fault recv d.found new heard waiting here now (subst (λ (r : Result (Unit {0}) WireFaultOut). Acts event r d.found new) is (d.does now.writing.is_open))
    by_either (inr (other, closed, ended)) =
        let told = d.tells (closed_is d.found.condition other closed) in
        subst (λ (p : Progress). HasEnded (how_of fault) fed start octets output p (feeder_state after started) here.port here.readings) (sym told.0)
        (subst (λ (f : WireFaultOut). HasEnded (how_of f) fed start octets output d.found (feeder_state after started) here.port here.readings) (same_fault {A = Unit {0}} (sym closed ∙ sym told.1 ∙ is)) ended)
