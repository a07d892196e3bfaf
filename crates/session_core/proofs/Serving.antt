-- A session goes on: an event is read, a request answered, something said.
use Rattle.std.proofs.Common.{◌≡◌, ℕ, ◌==◌, List, [], ◌∷◌, ◌++◌, Bool, true, false, ◌||◌, ◌&&◌, not, refl, sym, ap, ◌∙◌, subst, cond, inl, inr, append_assoc, append-nil}
use Rattle.std.specs.Prelude.{Some, None}
use Rattle.std.specs.List.{AllByRecursion}
use Rattle.std.proofs.lemmas.Bool.{eqb-true, false≢true}
use Rattle.base_kinds.specs.Schema.{SchemaNode}
use Rattle.book_port.specs.Opened.{Opened}
use Rattle.h2_frame.specs.Frames.{Frame}
use Rattle.h2_events.specs.declared.event.RecvEvent.{RecvEvent}
use Rattle.h2_events.specs.declared.said.Said.{Said}
use Rattle.h2_events.specs.Events.{opens, resets, highest_of}
use Rattle.h2_events.specs.Items.{Item, Read, heard, said_on, is_last, as_read, events_read, can_say}
use Rattle.h2_events.specs.Items as item
use Rattle.h2_events.proofs.Orders.{events_as_read}
use Rattle.h2_streams.specs.Calls.{Moment, read, ended, events_of, reads_of}
use Rattle.h2_streams.proofs.CallLemmas as calls
use Rattle.h2_send.specs.Accepting.{IsOpenedOnce}
use Rattle.h2_send.specs.Inputs.{Input, Event, Speech}
use Rattle.h2_send.specs.Orders.{order_of}
use Rattle.grpc_requests.specs.declared.request.Request.{Request}
use Rattle.grpc_requests.specs.Requests.{requests}
use Rattle.session_core.specs.declared.waiting.Waiting.{Waiting}
use Rattle.session_core.specs.Deeds.{Deed, Handing, Service, IsDeed, AreDone, asked_in, handed_by, requests_in, readings_in, said_to, turns_in}
use Rattle.session_core.specs.Feeding.{left_last}
use Rattle.session_core.specs.Rounds.{Round, AreTimely, HadTurns, IsRecent, IsTimely, IsWhole, deeds_of, inputs_of, is_turn}
use Rattle.session_core.specs.Runs.{IsAtRest}
use Rattle.session_core.specs.Saying.{waits_on, any_opens, IsOver, IsSaid, AreBehind}
use Rattle.session_core.specs.Serving.{Start, Standing, IsServed, first_service, service_of, standing_of}
use Rattle.session_core.specs.inner.Places.{course_of}
use Rattle.session_core.specs.inner.Words.{words}
use Rattle.session_core.proofs.Rounds.{all_more, inputs_one_more, all_closed, later_frame, frame_more, whole_more, recent_more}
use Rattle.stream_workers.specs.Feeders.{Started, is_fed}
use Rattle.session_core.specs.Serving.{without_fed}
use Rattle.session_core.specs.inner.Feeders.{HasFeeders, IsServedBeside, IsStartedFor, FeederState, book_of}
use Rattle.session_core.proofs.Sides.{deed_beside, fewer_wait, front_untold, handing_beside, reader_on, said_to-append, said_to-one, silence_untold, waits_on-append, waits_on-words, without_waits}
use Rattle.session_core.proofs.Chains.{last_seen}
use Rattle.session_core.proofs.Opened.{same_whose}
use Rattle.session_core.proofs.Keeping.{deeds_keep}
use Rattle.session_core.proofs.Orders.{both_more, said_by_event, said_by_speech, heard_by_event, heard_by_speech, read_by_event, read_by_speech, can_say_more}
use Rattle.session_core.proofs.Opening.{OpensAbove, IsOpened, opened_once, once_more, still_opened, requests_opened, all_front}

-- ---- an event is read

events_are : (moments : List Moment) → events_read (reads_of moments) ≡ events_of moments
events_are [] = refl
events_are (read frame (Some event) ∷ moments) = ap (λ t. event ∷ t) (events_are moments)
events_are (read frame None ∷ moments) = events_are moments
events_are (ended stream ∷ moments) = events_are moments

events_if : (b : Bool) (stream : ℕ) (reads : List Read) → events_read (cond b reads (item.Ended stream ∷ reads)) ≡ events_read reads
events_if true stream reads = refl
events_if false stream reads = refl

-- that ends aren't told changes no event
events_without : (fed : List ℕ) (reads : List Read) → events_read (without_fed fed reads) ≡ events_read reads
events_without fed [] = refl
events_without fed (item.Event event ∷ reads) = ap (λ es. event ∷ es) (events_without fed reads)
events_without fed (item.Ended stream ∷ reads) = events_if (is_fed fed stream) stream (without_fed fed reads) ∙ events_without fed reads

-- one order has the same events as the other
pub same_events : (fed : List ℕ) (moments : List Moment) (order : List Item) → without_fed fed (as_read order) ≡ without_fed fed (reads_of moments) → heard order ≡ events_of moments
same_events fed moments order one =
    sym (events_as_read order) ∙ sym (events_without fed (as_read order)) ∙ ap events_read one ∙ events_without fed (reads_of moments) ∙ events_are moments

-- ---- the order without the ends of the calls that feeders serve

-- both orders have these reads more
order_more : (fed : List ℕ) (moments more : List Moment) (order longer : List Item) (reads : List Read) → as_read longer ≡ as_read order ++ reads → reads_of more ≡ reads
    → without_fed fed (as_read order) ≡ without_fed fed (reads_of moments)
    → without_fed fed (as_read longer) ≡ without_fed fed (reads_of (moments ++ more))
order_more fed moments more order longer reads longer_is same one =
    ap (without_fed fed) longer_is ∙ both_more fed (as_read order) (reads_of moments) reads one
    ∙ ap (λ rs. without_fed fed (reads_of moments ++ rs)) (sym same) ∙ ap (without_fed fed) (sym (calls.reads_joined moments more))

or_false : (a : Bool) → a ≡ false → (a || false) ≡ false
or_false false is = refl
or_false true is = is

over_by_event : (s : ℕ) (moments : List Moment) (inputs : List Input) (event : RecvEvent) → heard (order_of inputs) ≡ events_of moments → OpensAbove (highest_of (events_of moments)) event
    → IsOver s (order_of inputs) → IsOver s (order_of (inputs ++ Event event ∷ []))
over_by_event s moments inputs event same new over =
    let before : any_opens s (events_of moments) ≡ true = ap (any_opens s) (sym same) ∙ over.opened in
    record {
      opened = ap (any_opens s) (heard_by_event inputs event) ∙ still_opened s (heard (order_of inputs)) (event ∷ []) over.opened;
      closed = can_say_more s inputs (Event event)
          ∙ ap (λ b. opens s event || (b && not (resets s event))) over.closed
          ∙ or_false (opens s event) (opened_once s event (events_of moments) before new);
    }

said_event : (s : ℕ) (moments : List Moment) (inputs : List Input) (event : RecvEvent) (waiting : List Waiting) (deeds : List Deed) → heard (order_of inputs) ≡ events_of moments → OpensAbove (highest_of (events_of moments)) event
    → IsSaid s waiting (order_of inputs) deeds → IsSaid s waiting (order_of (inputs ++ Event event ∷ [])) deeds
said_event s moments inputs event waiting deeds one new (inl all) =
    inl (ap (λ t. t ++ waits_on s waiting) (said_by_event s inputs event) ∙ all)
said_event s moments inputs event waiting deeds one new (inr (over, front)) =
    inr (over_by_event s moments inputs event one new over, record { rest = front.rest; joined = front.joined ∙ ap (λ t. t ++ front.rest) (sym (said_by_event s inputs event)) })

opened_event : (s : ℕ) (moments : List Moment) (inputs : List Input) (event : RecvEvent) → heard (order_of inputs) ≡ events_of moments → OpensAbove (highest_of (events_of moments)) event
    → IsOpenedOnce s (heard (order_of inputs)) → IsOpenedOnce s (heard (order_of (inputs ++ Event event ∷ [])))
opened_event s moments inputs event same new once =
    subst (λ (es : List RecvEvent). IsOpenedOnce s es) (sym (heard_by_event inputs event))
    (once_more s (heard (order_of inputs)) event once (λ before. opened_once s event (events_of moments) (ap (any_opens s) (sym same) ∙ before) new))

-- the round that goes on
abbrev round_in : {fed : List ℕ} {start : Start} {moments : List Moment} {inputs : List Input} {waiting : List Waiting} {owed : List Request} (at : Standing) → IsServed fed start (course_of moments inputs waiting owed at) → Round
round_in at served = record { deeds = at.round; inputs = served.last }

-- between two frames it is whole
round_whole : (fed : List ℕ) (start : Start) (moments : List Moment) (inputs : List Input) (waiting : List Waiting) (at : Standing) → IsAtRest [] inputs waiting at
    → (served : IsServed fed start (course_of moments inputs waiting [] at)) → IsWhole fed start.schema (first_service start) served.rounds (round_in at served)
round_whole fed start moments inputs waiting at rest served =
    let deeds : List Deed = deeds_of served.rounds ++ at.round in
    record {
      end = service_of at;
      done = served.done;
      asked = sym (append-nil (requests_in deeds)) ∙ served.asked ∙ ap requests (sym (same_events fed moments (order_of inputs) served.one_order)) ∙ ap (λ (is : List Input). requests (heard (order_of is))) served.given;
      frame = served.frame;
      recent = subst (λ (is : List Input). AllByRecursion (IsRecent is) at.round) served.given served.recent;
      waiting = waiting;
      said = λ s own. subst (λ (is : List Input). IsSaid s waiting (order_of is) deeds) served.given (served.said s own);
      behind = subst (λ (is : List Input). AreBehind is waiting) served.given rest.behind;
      turned = subst (λ (is : List Input). AllByRecursion (HadTurns at.round is) at.calls) served.given rest.turned;
    }

pub event_served : (fed : List ℕ) (start : Start) (side : FeederState) (moments : List Moment) (inputs : List Input) (waiting : List Waiting) (owed : List Request) (at : Standing) (frame : Frame) (event : RecvEvent)
    → requests (events_of moments ++ event ∷ []) ≡ requests (events_of moments) ++ owed
    → OpensAbove (highest_of (events_of moments)) event
    → IsAtRest [] inputs waiting at
    → IsServedBeside fed start side (course_of moments inputs waiting [] at)
    → IsServedBeside fed start side (course_of (moments ++ read frame (Some event) ∷ []) (inputs ++ Event event ∷ []) waiting owed (standing_of at.port at.calls at.readings []))
event_served fed start side moments inputs waiting owed at frame event grown new rest all =
    let served = all.served in
    let round = round_in at served in
    let deeds : List Deed = deeds_of served.rounds ++ at.round in
    let same : deeds_of (served.rounds ++ round ∷ []) ++ [] ≡ deeds = all_closed served.rounds round in
    let events = same_events fed moments (order_of inputs) served.one_order in
    record {
      beside = subst (λ (ds : List Deed). HasFeeders start.port side waiting (moments ++ read frame (Some event) ∷ []) ds) (sym same)
          (reader_on start.port side waiting moments deeds all.beside (read frame (Some event) ∷ []) (λ s none. refl));
      served = record {
        rounds = served.rounds ++ round ∷ [];
        last = Event event ∷ [];
        given = ap (λ (is : List Input). is ++ Event event ∷ []) (served.given ∙ sym (inputs_one_more served.rounds round));
        frame = later_frame served.rounds round event;
        whole = whole_more fed start.schema (first_service start) [] served.rounds round served.whole (round_whole fed start moments inputs waiting at rest served);
        recent = tt;
        asked = ap (λ (ds : List Deed). requests_in ds ++ owed) same
            ∙ ap (λ t. t ++ owed) (sym (append-nil (requests_in deeds)) ∙ served.asked) ∙ sym grown
            ∙ ap requests (sym (calls.events_joined moments (read frame (Some event) ∷ [])));
        done = subst (λ (ds : List Deed). AreDone start.schema (first_service start) ds (service_of at)) (sym same) served.done;
        timely = subst (λ (ds : List Deed). AreTimely fed [] ds) (sym same) served.timely;
        clock = served.clock ∙ ap (λ (ds : List Deed). start.readings ++ readings_in ds) (sym same);
        said = λ s own. subst (λ (ds : List Deed). IsSaid s waiting (order_of (inputs ++ Event event ∷ [])) ds) (sym same) (said_event s moments inputs event waiting deeds events new (served.said s own));
        opened = λ s. opened_event s moments inputs event events new (served.opened s);
        one_order = order_more fed moments (read frame (Some event) ∷ []) (order_of inputs) (order_of (inputs ++ Event event ∷ [])) (item.Event event ∷ []) (read_by_event inputs event) refl served.one_order;
      };
    }

-- frames that mean nothing
pub silence_served : (fed : List ℕ) (start : Start) (side : FeederState) (moments more : List Moment) (inputs : List Input) (waiting : List Waiting) (owed : List Request) (at : Standing)
    → reads_of more ≡ []
    → IsServedBeside fed start side (course_of moments inputs waiting owed at)
    → IsServedBeside fed start side (course_of (moments ++ more) inputs waiting owed at)
silence_served fed start side moments more inputs waiting owed at silent all =
    let served = all.served in
    let same : reads_of (moments ++ more) ≡ reads_of moments = calls.reads_joined moments more ∙ ap (λ t. reads_of moments ++ t) silent ∙ append-nil (reads_of moments) in
    let events : events_of (moments ++ more) ≡ events_of moments = sym (events_are (moments ++ more)) ∙ ap events_read same ∙ events_are moments in
    record {
      beside = reader_on start.port side waiting moments (deeds_of served.rounds ++ at.round) all.beside more (λ s none. silence_untold s more silent);
      served = record {
        rounds = served.rounds;
        last = served.last;
        given = served.given;
        frame = served.frame;
        whole = served.whole;
        recent = served.recent;
        asked = served.asked ∙ ap requests (sym events);
        done = served.done;
        timely = served.timely;
        clock = served.clock;
        said = served.said;
        opened = served.opened;
        one_order = served.one_order ∙ ap (without_fed fed) (sym same);
      };
    }

pub silent_events : (moments more : List Moment) → reads_of more ≡ [] → events_of (moments ++ more) ≡ events_of moments
silent_events moments more silent =
    sym (events_are (moments ++ more)) ∙ ap events_read (calls.reads_joined moments more ∙ ap (λ t. reads_of moments ++ t) silent ∙ append-nil (reads_of moments)) ∙ events_are moments

-- ---- a deed is done

requests_more : (deeds : List Deed) (d : Deed) → requests_in (deeds ++ d ∷ []) ≡ requests_in deeds ++ asked_in d.stream d.doing
requests_more [] d = append-nil (asked_in d.stream d.doing)
requests_more (e ∷ deeds) d = ap (λ t. asked_in e.stream e.doing ++ t) (requests_more deeds d) ∙ sym (append_assoc (asked_in e.stream e.doing) (requests_in deeds) (asked_in d.stream d.doing))

readings_more : (deeds : List Deed) (d : Deed) → readings_in (deeds ++ d ∷ []) ≡ readings_in deeds ++ d.readings
readings_more [] d = append-nil d.readings
readings_more (e ∷ deeds) d = ap (λ t. e.readings ++ t) (readings_more deeds d) ∙ sym (append_assoc e.readings (readings_in deeds) d.readings)

done_more : (schema : List SchemaNode) (old mid new : Service) (deeds : List Deed) (d : Deed) → AreDone schema old deeds mid → IsDeed schema d mid new
    → AreDone schema old (deeds ++ d ∷ []) new
done_more schema old mid new [] d is then = (new, subst (λ (p : Service). IsDeed schema d p new) is then, refl)
done_more schema old mid new (e ∷ deeds) d is then = (is.0, is.1, done_more schema is.0 mid new deeds d is.2 then)

said_more : (s : ℕ) (waiting : List Waiting) (order : List Item) (deeds : List Deed) (a : Deed) → IsSaid s waiting order deeds → IsSaid s (waiting ++ words a.stream a.said) order (deeds ++ a ∷ [])
said_more s waiting order deeds a (inl all) =
    inl (ap (λ t. said_on s order ++ t) (waits_on-append s waiting (words a.stream a.said))
    ∙ sym (append_assoc (said_on s order) (waits_on s waiting) (waits_on s (words a.stream a.said)))
    ∙ ap (λ t. t ++ waits_on s (words a.stream a.said)) all
    ∙ ap (λ t. said_to s deeds ++ t) (waits_on-words s a.stream a.said ∙ sym (said_to-one s a))
    ∙ sym (said_to-append s deeds (a ∷ [])))
said_more s waiting order deeds a (inr (over, front)) =
    inr (
      over,
      record {
        rest = front.rest ++ said_to s (a ∷ []);
        joined = said_to-append s deeds (a ∷ []) ∙ ap (λ t. t ++ said_to s (a ∷ [])) front.joined ∙ append_assoc (said_on s order) front.rest (said_to s (a ∷ []));
      },
    )

timely_more : (fed : List ℕ) (before deeds : List Deed) (d : Deed) → AreTimely fed before deeds → (is_turn d.doing ≡ true → is_fed fed d.stream ≡ false → IsTimely (before ++ deeds) d) → AreTimely fed before (deeds ++ d ∷ [])
timely_more fed before [] d are turns = (subst (λ (ds : List Deed). is_turn d.doing ≡ true → is_fed fed d.stream ≡ false → IsTimely ds d) (append-nil before) turns, tt)
timely_more fed before (e ∷ deeds) d are turns =
    (are.0, timely_more fed (before ++ e ∷ []) deeds d are.1 (subst (λ (ds : List Deed). is_turn d.doing ≡ true → is_fed fed d.stream ≡ false → IsTimely ds d) (sym (append_assoc before (e ∷ []) deeds)) turns))

-- a turn at a stream that is free, where nothing is owed
pub turn_timely : (fed : List ℕ) (start : Start) (moments : List Moment) (inputs : List Input) (waiting : List Waiting) (at : Standing) (deed : Deed) → deed.given ≡ inputs → waits_on deed.stream waiting ≡ [] → can_say deed.stream (order_of inputs) ≡ true
    → (served : IsServed fed start (course_of moments inputs waiting [] at)) → is_fed fed deed.stream ≡ false → IsTimely (deeds_of served.rounds ++ at.round) deed
turn_timely fed start moments inputs waiting at deed given none can served own =
    let deeds : List Deed = deeds_of served.rounds ++ at.round in
    record {
      answered = sym (append-nil (requests_in deeds)) ∙ served.asked ∙ ap requests (sym (same_events fed moments (order_of inputs) served.one_order)) ∙ ap (λ (is : List Input). requests (heard (order_of is))) (sym given);
      said = ap (λ (is : List Input). said_on deed.stream (order_of is)) given ∙ all_said (served.said deed.stream own);
    } where
      all_said : IsSaid deed.stream waiting (order_of inputs) (deeds_of served.rounds ++ at.round) → said_on deed.stream (order_of inputs) ≡ said_to deed.stream (deeds_of served.rounds ++ at.round)
      all_said (inl all) = sym (append-nil (said_on deed.stream (order_of inputs))) ∙ ap (λ t. said_on deed.stream (order_of inputs) ++ t) (sym none) ∙ all
      all_said (inr (over, front)) = absurd (false≢true (sym over.closed ∙ can))

-- the deed is the last one now
module _ (fed : List ℕ) (start : Start) (moments : List Moment) (inputs : List Input) (waiting : List Waiting) (owed : List Request) (at : Standing) (deed : Deed) (new : Service) (later : List ℕ)
    (given : deed.given ≡ inputs) (is : IsDeed start.schema deed (service_of at) new) (taken : later ≡ at.readings ++ deed.readings)
    (served : IsServed fed start (course_of moments inputs waiting (asked_in deed.stream deed.doing ++ owed) at))
    (turns : is_turn deed.doing ≡ true → is_fed fed deed.stream ≡ false → IsTimely (deeds_of served.rounds ++ at.round) deed) where
  abbrev deeds_so_far : List Deed
  deeds_so_far = deeds_of served.rounds ++ at.round

  same_deeds : deeds_so_far ++ deed ∷ [] ≡ deeds_of served.rounds ++ (at.round ++ deed ∷ [])
  same_deeds = append_assoc (deeds_of served.rounds) at.round (deed ∷ [])

  -- with what goes with feeders then
  one_deed : (side : FeederState) → HasFeeders start.port side (waiting ++ words deed.stream deed.said) moments (deeds_so_far ++ deed ∷ [])
      → IsServedBeside fed start side (course_of moments inputs (waiting ++ words deed.stream deed.said) owed (standing_of new.port new.calls later (at.round ++ deed ∷ [])))
  one_deed side beside =
      let deeds : List Deed = deeds_of served.rounds ++ at.round in
      let same : deeds ++ deed ∷ [] ≡ deeds_of served.rounds ++ (at.round ++ deed ∷ []) = append_assoc (deeds_of served.rounds) at.round (deed ∷ []) in
      record {
        beside = subst (λ (ds : List Deed). HasFeeders start.port side (waiting ++ words deed.stream deed.said) moments ds) same beside;
        served = record {
          rounds = served.rounds;
          last = served.last;
          given = served.given;
          frame = served.frame;
          whole = served.whole;
          recent = all_more (IsRecent inputs) at.round deed served.recent (record { more = []; joined = sym given ∙ sym (append-nil deed.given); speeches = tt });
          asked = ap (λ (ds : List Deed). requests_in ds ++ owed) (sym same) ∙ ap (λ t. t ++ owed) (requests_more deeds deed)
              ∙ append_assoc (requests_in deeds) (asked_in deed.stream deed.doing) owed ∙ served.asked;
          done = subst (λ (ds : List Deed). AreDone start.schema (first_service start) ds new) same
              (done_more start.schema (first_service start) (service_of at) new deeds deed served.done is);
          timely = subst (λ (ds : List Deed). AreTimely fed [] ds) same (timely_more fed [] deeds deed served.timely turns);
          clock = taken ∙ ap (λ t. t ++ deed.readings) served.clock ∙ append_assoc start.readings (readings_in deeds) deed.readings
              ∙ ap (λ t. start.readings ++ t) (sym (readings_more deeds deed)) ∙ ap (λ (ds : List Deed). start.readings ++ readings_in ds) same;
          said = λ s own. subst (λ (ds : List Deed). IsSaid s (waiting ++ words deed.stream deed.said) (order_of inputs) ds) same (said_more s waiting (order_of inputs) deeds deed (served.said s own));
          opened = served.opened;
          one_order = served.one_order;
        };
      }

pub deed_served : (fed : List ℕ) (start : Start) (side : FeederState) (moments : List Moment) (inputs : List Input) (waiting : List Waiting) (owed : List Request) (at : Standing) (deed : Deed) (new : Service) (later : List ℕ)
    → deed.given ≡ inputs → IsDeed start.schema deed (service_of at) new → later ≡ at.readings ++ deed.readings → handed_by deed.stream deed.doing ≡ []
    → (all : IsServedBeside fed start side (course_of moments inputs waiting (asked_in deed.stream deed.doing ++ owed) at))
    → (is_turn deed.doing ≡ true → is_fed fed deed.stream ≡ false → IsTimely (deeds_of all.served.rounds ++ at.round) deed)
    → IsServedBeside fed start side (course_of moments inputs (waiting ++ words deed.stream deed.said) owed (standing_of new.port new.calls later (at.round ++ deed ∷ [])))
deed_served fed start side moments inputs waiting owed at deed new later given is taken none all turns =
    one_deed fed start moments inputs waiting owed at deed new later given is taken all.served turns side
    (deed_beside start.port side waiting moments (deeds_of all.served.rounds ++ at.round) all.beside deed none)

-- a call is handed over
pub handing_served : (fed : List ℕ) (start : Start) (side : FeederState) (moments : List Moment) (inputs : List Input) (waiting : List Waiting) (owed : List Request) (at : Standing) (deed : Deed) (new : Service) (later : List ℕ) (body : List ℕ) (one : Started)
    → deed.given ≡ inputs → IsDeed start.schema deed (service_of at) new → later ≡ at.readings ++ deed.readings → deed.doing ≡ Handing body
    → IsStartedFor side.name deed.stream body (book_of at.port) at.port.seen one
    → IsServedBeside fed start side (course_of moments inputs waiting (asked_in deed.stream deed.doing ++ owed) at)
    → IsServedBeside fed start (record side { started = side.started ++ one ∷ [] }) (course_of moments inputs (waiting ++ words deed.stream deed.said) owed (standing_of new.port new.calls later (at.round ++ deed ∷ [])))
handing_served fed start side moments inputs waiting owed at deed new later body one given is taken hands started all =
    let deeds : List Deed = deeds_of all.served.rounds ++ at.round in
    one_deed fed start moments inputs waiting owed at deed new later given is taken all.served
    (λ turn own. absurd (false≢true (sym (ap is_turn hands) ∙ turn)))
    (record side { started = side.started ++ one ∷ [] })
    (handing_beside start.port side waiting moments deeds all.beside deed body one hands
    (subst (λ (of : Opened × List ℕ). IsStartedFor side.name deed.stream body of (left_last start.port.seen (turns_in deeds)) one) (same_whose start.schema (first_service start) deeds (service_of at) all.served.done)
    (subst (λ h. IsStartedFor side.name deed.stream body (book_of at.port) h one) (last_seen start.schema (first_service start) deeds (service_of at) all.served.done) started)))

-- ---- something is said

abbrev pub ends_with : ℕ → Said → List Moment
ends_with stream said = cond (is_last said) (ended stream ∷ []) []

end_reads : (b : Bool) (stream : ℕ) → reads_of (cond b (ended stream ∷ []) []) ≡ cond b (item.Ended stream ∷ []) []
end_reads true stream = refl
end_reads false stream = refl

end_is_no_event : (b : Bool) (stream : ℕ) → events_of (cond b (ended stream ∷ []) []) ≡ []
end_is_no_event true stream = refl
end_is_no_event false stream = refl

pub events_at_end : (moments : List Moment) (stream : ℕ) (said : Said) → events_of (moments ++ ends_with stream said) ≡ events_of moments
events_at_end moments stream said = calls.events_joined moments (ends_with stream said) ∙ ap (λ t. events_of moments ++ t) (end_is_no_event (is_last said) stream) ∙ append-nil (events_of moments)

over_by_speech : (s on : ℕ) (inputs : List Input) (said : Said) → IsOver s (order_of inputs) → IsOver s (order_of (inputs ++ Speech on said ∷ []))
over_by_speech s on inputs said over = record {
  opened = ap (any_opens s) (heard_by_speech inputs on said) ∙ over.opened;
  closed = can_say_more s inputs (Speech on said) ∙ ap (λ b. b && not ((on == s) && is_last said)) over.closed;
}

said_speech : (s : ℕ) (b : Bool) (inputs : List Input) (still rest : List Waiting) (w : Waiting) (deeds : List Deed) → (w.stream == s) ≡ b
    → waits_on w.stream still ≡ [] → can_say w.stream (order_of inputs) ≡ true
    → IsSaid s (still ++ w ∷ rest) (order_of inputs) deeds → IsSaid s (still ++ rest) (order_of (inputs ++ Speech w.stream w.said ∷ [])) deeds
said_speech s true inputs still rest w deeds same none can (inl all) =
    let at : w.stream ≡ s = eqb-true w.stream s same in
    let empty : waits_on s still ≡ [] = ap (λ n. waits_on n still) (sym at) ∙ none in
    let now = said_by_speech s w.stream inputs w.said ∙ ap (λ b. said_on s (order_of inputs) ++ cond b (w.said ∷ []) []) same in
    let before : waits_on s (still ++ w ∷ rest) ≡ w.said ∷ waits_on s rest = waits_on-append s still (w ∷ rest) ∙ ap (λ t. t ++ cond (w.stream == s) (w.said ∷ waits_on s rest) (waits_on s rest)) empty ∙ ap (λ b. cond b (w.said ∷ waits_on s rest) (waits_on s rest)) same in
    let after : waits_on s (still ++ rest) ≡ waits_on s rest = waits_on-append s still rest ∙ ap (λ t. t ++ waits_on s rest) empty in
    inl (ap (λ t. t ++ waits_on s (still ++ rest)) now ∙ ap (λ t. (said_on s (order_of inputs) ++ w.said ∷ []) ++ t) after
    ∙ append_assoc (said_on s (order_of inputs)) (w.said ∷ []) (waits_on s rest) ∙ ap (λ t. said_on s (order_of inputs) ++ t) (sym before) ∙ all)
said_speech s true inputs still rest w deeds same none can (inr (over, front)) =
    absurd (false≢true (sym over.closed ∙ ap (λ n. can_say n (order_of inputs)) (sym (eqb-true w.stream s same)) ∙ can))
said_speech s false inputs still rest w deeds same none can (inl all) =
    let now = said_by_speech s w.stream inputs w.said ∙ ap (λ b. said_on s (order_of inputs) ++ cond b (w.said ∷ []) []) same ∙ append-nil (said_on s (order_of inputs)) in
    let before : waits_on s (still ++ w ∷ rest) ≡ waits_on s still ++ waits_on s rest = waits_on-append s still (w ∷ rest) ∙ ap (λ b. waits_on s still ++ cond b (w.said ∷ waits_on s rest) (waits_on s rest)) same in
    inl (ap (λ t. t ++ waits_on s (still ++ rest)) now ∙ ap (λ t. said_on s (order_of inputs) ++ t) (waits_on-append s still rest ∙ sym before) ∙ all)
said_speech s false inputs still rest w deeds same none can (inr (over, front)) =
    let now = said_by_speech s w.stream inputs w.said ∙ ap (λ b. said_on s (order_of inputs) ++ cond b (w.said ∷ []) []) same ∙ append-nil (said_on s (order_of inputs)) in
    inr (over_by_speech s w.stream inputs w.said over, record { rest = front.rest; joined = front.joined ∙ ap (λ t. t ++ front.rest) (sym now) })

pub speech_served : (fed : List ℕ) (start : Start) (side : FeederState) (moments : List Moment) (inputs : List Input) (still rest : List Waiting) (w : Waiting) (owed : List Request) (at : Standing)
    → waits_on w.stream still ≡ [] → can_say w.stream (order_of inputs) ≡ true
    → IsServedBeside fed start side (course_of moments inputs (still ++ w ∷ rest) owed at)
    → IsServedBeside fed start side (course_of (moments ++ ends_with w.stream w.said) (inputs ++ Speech w.stream w.said ∷ []) (still ++ rest) owed at)
speech_served fed start side moments inputs still rest w owed at none can all =
    let served = all.served in
    let deeds : List Deed = deeds_of served.rounds ++ at.round in
    record {
      beside = fewer_wait start.port side (still ++ w ∷ rest) (moments ++ ends_with w.stream w.said) deeds
          (reader_on start.port side (still ++ w ∷ rest) moments deeds all.beside (ends_with w.stream w.said) (λ s none. front_untold s still rest w none))
          (still ++ rest) (λ s empty. without_waits s still rest w empty);
      served = record {
        rounds = served.rounds;
        last = served.last ++ Speech w.stream w.said ∷ [];
        given = ap (λ (is : List Input). is ++ Speech w.stream w.said ∷ []) served.given ∙ append_assoc (inputs_of served.rounds) served.last (Speech w.stream w.said ∷ []);
        frame = frame_more served.rounds served.last w.stream w.said served.frame;
        whole = served.whole;
        recent = recent_more inputs at.round w.stream w.said served.recent;
        asked = served.asked ∙ ap requests (sym (events_at_end moments w.stream w.said));
        done = served.done;
        timely = served.timely;
        clock = served.clock;
        said = λ s own. said_speech s (w.stream == s) inputs still rest w deeds refl none can (served.said s own);
        opened = λ s. subst (λ (es : List RecvEvent). IsOpenedOnce s es) (sym (heard_by_speech inputs w.stream w.said)) (served.opened s);
        one_order = order_more fed moments (ends_with w.stream w.said) (order_of inputs) (order_of (inputs ++ Speech w.stream w.said ∷ [])) (cond (is_last w.said) (item.Ended w.stream ∷ []) [])
            (read_by_speech inputs w.stream w.said) (end_reads (is_last w.said) w.stream) served.one_order;
      };
    }

-- ---- nothing can be said on a stream any more

not_empty : (x y z : List Said) (said : Said) → [] ≡ x ++ (y ++ said ∷ z) → ⊥
not_empty [] [] z said e = absurd cc
not_empty [] (b ∷ y) z said e = absurd cc
not_empty (a ∷ x) y z said e = absurd cc

-- the stream of the deed was opened by these events
abbrev IsOpenedFor : List RecvEvent → Deed → Type 0
IsOpenedFor events d = any_opens d.stream events ≡ true

first_opened : (b : Bool) (s : ℕ) (events : List RecvEvent) (a : Deed) (deeds : List Deed) (whole : List Said) → (a.stream == s) ≡ b → (any_opens a.stream events ≡ true)
    → cond b (a.said ++ said_to s deeds) (said_to s deeds) ≡ whole → (said_to s deeds ≡ whole → any_opens s events ≡ true) → any_opens s events ≡ true
first_opened true s events a deeds whole same opened is rest = ap (λ n. any_opens n events) (sym (eqb-true a.stream s same)) ∙ opened
first_opened false s events a deeds whole same opened is rest = rest is

said_opened : (s : ℕ) (events : List RecvEvent) (deeds : List Deed) (x y z : List Said) (said : Said) → AllByRecursion (IsOpenedFor events) deeds
    → said_to s deeds ≡ x ++ (y ++ said ∷ z) → any_opens s events ≡ true
said_opened s events [] x y z said opened is = absurd (not_empty x y z said is)
said_opened s events (a ∷ deeds) x y z said opened is =
    first_opened (a.stream == s) s events a deeds (x ++ (y ++ said ∷ z)) refl opened.0 is (λ later. said_opened s events deeds x y z said opened.1 later)

said_gone : (s : ℕ) (b : Bool) (order : List Item) (still rest : List Waiting) (w : Waiting) (deeds : List Deed) → (w.stream == s) ≡ b
    → AllByRecursion (IsOpenedFor (heard order)) deeds → can_say w.stream order ≡ false
    → IsSaid s (still ++ w ∷ rest) order deeds → IsSaid s (still ++ rest) order deeds
said_gone s true order still rest w deeds same opened gone (inl all) =
    let before : waits_on s (still ++ w ∷ rest) ≡ waits_on s still ++ w.said ∷ waits_on s rest = waits_on-append s still (w ∷ rest) ∙ ap (λ b. waits_on s still ++ cond b (w.said ∷ waits_on s rest) (waits_on s rest)) same in
    inr (
      record {
        opened = said_opened s (heard order) deeds (said_on s order) (waits_on s still) (waits_on s rest) w.said opened (sym all ∙ ap (λ t. said_on s order ++ t) before);
        closed = ap (λ n. can_say n order) (sym (eqb-true w.stream s same)) ∙ gone;
      },
      record { rest = waits_on s (still ++ w ∷ rest); joined = sym all },
    )
said_gone s true order still rest w deeds same opened gone (inr (over, front)) = inr (over, front)
said_gone s false order still rest w deeds same opened gone (inl all) =
    let before : waits_on s (still ++ w ∷ rest) ≡ waits_on s still ++ waits_on s rest = waits_on-append s still (w ∷ rest) ∙ ap (λ b. waits_on s still ++ cond b (w.said ∷ waits_on s rest) (waits_on s rest)) same in
    inl (ap (λ t. said_on s order ++ t) (waits_on-append s still rest ∙ sym before) ∙ all)
said_gone s false order still rest w deeds same opened gone (inr (over, front)) = inr (over, front)

-- all that was done, was done on streams that were opened
deeds_opened : (fed : List ℕ) (start : Start) (moments : List Moment) (inputs : List Input) (waiting : List Waiting) (owed : List Request) (at : Standing)
    → (served : IsServed fed start (course_of moments inputs waiting owed at)) → AllByRecursion (IsOpenedFor (events_of moments)) (deeds_of served.rounds ++ at.round)
deeds_opened fed start moments inputs waiting owed at served =
    let deeds : List Deed = deeds_of served.rounds ++ at.round in
    let all = subst (λ (rs : List Request). AllByRecursion (IsOpened (events_of moments)) rs) (sym served.asked) (requests_opened (events_of moments)) in
    (deeds_keep (λ (stream : ℕ). any_opens stream (events_of moments) ≡ true) start.schema (first_service start) deeds (service_of at) served.done
    (all_front (IsOpened (events_of moments)) (requests_in deeds) owed all) tt).0

pub gone_served : (fed : List ℕ) (start : Start) (side : FeederState) (moments : List Moment) (inputs : List Input) (still rest : List Waiting) (w : Waiting) (owed : List Request) (at : Standing)
    → can_say w.stream (order_of inputs) ≡ false
    → IsServedBeside fed start side (course_of moments inputs (still ++ w ∷ rest) owed at)
    → IsServedBeside fed start side (course_of moments inputs (still ++ rest) owed at)
gone_served fed start side moments inputs still rest w owed at gone all =
    let served = all.served in
    let same = same_events fed moments (order_of inputs) served.one_order in
    let deeds : List Deed = deeds_of served.rounds ++ at.round in
    let opened = subst (λ (es : List RecvEvent). AllByRecursion (IsOpenedFor es) deeds) (sym same) (deeds_opened fed start moments inputs (still ++ w ∷ rest) owed at served) in
    record {
      beside = fewer_wait start.port side (still ++ w ∷ rest) moments deeds all.beside (still ++ rest) (λ s empty. without_waits s still rest w empty);
      served = record {
        rounds = served.rounds;
        last = served.last;
        given = served.given;
        frame = served.frame;
        whole = served.whole;
        recent = served.recent;
        asked = served.asked;
        done = served.done;
        timely = served.timely;
        clock = served.clock;
        said = λ s own. said_gone s (w.stream == s) (order_of inputs) still rest w deeds refl opened gone (served.said s own);
        opened = served.opened;
        one_order = served.one_order;
      };
    }

pub waiting_served : (fed : List ℕ) (start : Start) (side : FeederState) (moments : List Moment) (inputs : List Input) (waiting other : List Waiting) (owed : List Request) (at : Standing)
    → waiting ≡ other → IsServedBeside fed start side (course_of moments inputs waiting owed at) → IsServedBeside fed start side (course_of moments inputs other owed at)
waiting_served fed start side moments inputs waiting other owed at same served = subst (λ (w : List Waiting). IsServedBeside fed start side (course_of moments inputs w owed at)) same served
