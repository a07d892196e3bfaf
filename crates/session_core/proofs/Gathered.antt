-- A session beside feeders as a whole: from where it ended, what the feeders did, and the wire that was given back behind them all.
use Rattle.std.proofs.Common.{◌≡◌, ℕ, List, [], ◌∷◌, ◌++◌, true, refl, sym, ap, ◌∙◌, subst, append-nil, append_assoc, false, arith}
use Rattle.std.specs.List.{AllByRecursion}
use Rattle.std.proofs.lemmas.Bool.{false≢true}
use Rattle.base_kinds.specs.Schema.{SchemaNode}
use Rattle.book_port.specs.Ports.{PortView}
use Rattle.environment.specs.Input.{Input as Source}
use Rattle.environment.specs.Output.{Output}
use Rattle.h2_recv.specs.Receiving.{State}
use Rattle.h2_send.specs.Conditions.{IsClosed}
use Rattle.h2_send.specs.declared.condition.Condition.TheVariants as condition
use Rattle.h2_send.specs.Port.{Progress}
use Rattle.h2_send.specs.Wires.{WireView}
use Rattle.turn_lock.specs.Chronicles.{entries_by}
use Rattle.turn_lock.proofs.Counts.{by_append}
use Rattle.shared_wire.specs.Records.{AreRecords, WireRecord, left_in, record_author}
use Rattle.shared_wire.specs.Visits.{GivesBack, IsFirstVisit, OthersWentOn, VisitView, end_of, first_records, given_in, others_of, records_of_others}
use Rattle.shared_wire.proofs.Holding.{closed_not_open}
use Rattle.shared_wire.proofs.OthersDid.{others_later}
use Rattle.stream_workers.specs.Feeders.{AllEnd, IsOfFeeder, MeetsVisits, Started, is_fed, streams_of}
use Rattle.stream_workers.specs.Ports.{own_port}
use Rattle.stream_workers.proofs.Theirs.{others_are_feeders}
use Rattle.session_core.specs.declared.how.How.{How}
use Rattle.session_core.specs.declared.how.How.TheVariants as hows
use Rattle.session_core.specs.Deeds.{handed_in}
use Rattle.session_core.specs.FeederRuns.{SessionRunBeside}
use Rattle.session_core.specs.Runs.{Outside, RunBeside, SessionRun, outside_of, start_of}
use Rattle.session_core.specs.Serving.{deeds_in, standing_of, without_fed}
use Rattle.session_core.specs.Writing.{IsLostLast}
use Rattle.h2_streams.specs.Calls.{reads_of}
use Rattle.h2_events.specs.declared.event.RecvEvent.{RecvEvent}
use Rattle.h2_send.specs.Port.{unused_port}
use Rattle.book_port.specs.Opened.{Opened}
use Rattle.stream_workers.specs.Feeders.{AreOf, FeedersView}
use Rattle.session_core.specs.inner.Feeders.{AreOfSession, IsOwnVisit, FeederState, feeder_state, book_of}
use Rattle.session_core.specs.inner.Sending.{WireHistory}
use Rattle.session_core.specs.inner.Places.{Begins, HasFinished, IsServing, place_of}
use Rattle.session_core.proofs.Feeders.{all_untold, begun_so, course_served, handed_fed, meetings_keep, same_streams}
use Rattle.session_core.proofs.Fronts.{begun_with, closed_last}
use Rattle.session_core.proofs.Ends.{all_told, no_side, none_handed}
use Rattle.session_core.proofs.Keeping.{all_first}
use Rattle.session_core.proofs.Reading.{wholly_read}

-- ---- the wire that is given back

went_both : (author : ℕ) (first second third : List WireRecord) → OthersWentOn author first second → OthersWentOn author second third → OthersWentOn author first third
went_both author first second third p q = record {
  others = p.others ++ q.others;
  whole = q.whole ∙ ap (λ (rs : List WireRecord). rs ++ q.others) p.whole ∙ append_assoc first p.others q.others;
  none = by_append record_author author p.others q.others ∙ ap (λ (rs : List WireRecord). rs ++ entries_by record_author author q.others) p.none ∙ q.none;
}

meetings_went : (old : VisitView) (visits : List VisitView) (new : VisitView) → MeetsVisits old visits new → OthersWentOn old.author old.seen new.seen
meetings_went old [] new is = record { others = []; whole = ap (λ (v : VisitView). v.seen) is ∙ sym (append-nil old.seen); none = refl }
meetings_went old (visit ∷ visits) new (next, meets, rest) =
    let same : next.author ≡ old.author = ap (λ (v : VisitView). v.author) meets.new_is in
    went_both old.author old.seen next.seen new.seen meets.has_own (subst (λ (n : ℕ). OthersWentOn n next.seen new.seen) same (meetings_went next visits new rest))

module _ {S : Type 0} (seen : S → Output) (schema : List SchemaNode) (started : List Started) (old_book new_book : PortView) (old_wire new_wire : VisitView) (wire : WireView S)
    (own : IsOwnVisit old_wire) (end : AllEnd schema started old_book old_wire new_book new_wire) (back : GivesBack seen new_wire wire) where
  all_went : OthersWentOn old_wire.author old_wire.seen back.all
  all_went =
      went_both old_wire.author old_wire.seen new_wire.seen back.all (meetings_went old_wire end.visits new_wire end.wires)
      (subst (λ (n : ℕ). OthersWentOn n new_wire.seen back.all) (meetings_keep old_wire end.visits new_wire end.wires).author back.begins)

  -- All that others had done at it by then is what feeders said.
  pub theirs : AllByRecursion (IsOfFeeder (streams_of end.feeders)) (others_of old_wire)
  theirs =
      let fed = streams_of end.feeders in
      let all = others_are_feeders schema started old_book new_book old_wire new_wire back.all end own.unused back.stands.records back.all_met back.has_made.1 in
      let mine = subst (λ (n : ℕ). AllByRecursion (IsOfFeeder fed) (given_in (records_of_others n back.all))) (meetings_keep old_wire end.visits new_wire end.wires).author all in
      all_first (IsOfFeeder fed) (others_of old_wire) (given_in all_went.others)
      (subst (AllByRecursion (IsOfFeeder fed)) (others_later old_wire.author old_wire.seen back.all own.records back.stands.records all_went) mine)

  -- Where it was closed, nothing more was done at it.
  pub stays_closed : IsClosed (left_in old_wire.seen).condition → left_in back.all ≡ left_in old_wire.seen
  stays_closed closed =
      ap left_in all_went.whole
      ∙ closed_last old_wire.seen all_went.others (subst AreRecords all_went.whole back.stands.records) own.records (closed_not_open (left_in old_wire.seen).condition closed)

  begun : begun_with back.all ≡ []
  begun = begun_so back.all (end_of new_wire) own.at back.has_made.0 ((meetings_keep old_wire end.visits new_wire end.wires).start ∙ own.first) ∙ own.none

-- ---- the whole

abbrev finished_runs : (how : How) (fed : List ℕ) (schema : List SchemaNode) (before : Outside) (source : Source) (at : Progress) (side : FeederState) (port : PortView) (readings : List ℕ) → (f : HasFinished how fed schema before source at side port readings)
    → without_fed fed (reads_of f.moments) ≡ reads_of f.moments → AllByRecursion (λ (stream : ℕ). is_fed fed stream ≡ true) (handed_in (deeds_in f.served.served)) → RunBeside fed schema before how (outside_of source at.output port readings)
finished_runs how fed schema before source at side port readings f untold handed = record {
  octets = f.octets;
  moments = f.moments;
  inputs = f.inputs;
  waiting = f.waiting;
  owed = f.owed;
  calls = f.calls;
  round = f.round;
  given = f.given;
  partly = f.partly;
  made = f.made;
  accepted = f.accepted;
  served = f.served.served;
  settled = f.settled;
  written = f.written;
  untold = untold;
  handed = handed;
}

-- what is seen of a session by what it doesn't share
abbrev pub own_outside : Outside → Outside
own_outside old = outside_of old.input old.output (own_port old.port) old.readings

pub served_beside : {S : Type 0} (seen : S → Output) (schema : List SchemaNode) (old : Outside) (how : How) (source : Source) (side : FeederState) (port new_port : PortView) (readings : List ℕ) (old_wire new_wire : VisitView) (wire : WireView S)
    → port.is_alone ≡ false → IsOwnVisit old_wire → (end : AllEnd schema side.started port old_wire new_port new_wire) → GivesBack seen new_wire wire → side.own ≡ given_in old_wire.made
    → HasFinished how (streams_of end.feeders) schema (own_outside old) source (left_in old_wire.seen) side (own_port port) readings
    → SessionRunBeside schema old how (outside_of source (seen wire.sink) new_port readings)
served_beside seen schema old how source side port new_port readings old_wire new_wire wire shared own end back said f =
    let same : left_in back.all ≡ left_in old_wire.seen = stays_closed seen schema side.started port new_port old_wire new_wire wire own end back f.closed in
    let written : seen wire.sink ≡ (left_in old_wire.seen).output = back.stands.output ∙ ap (λ (p : Progress). p.output) same in
    let each = course_served schema (streams_of end.feeders) (start_of schema (own_outside old)) side _ old.port refl refl f.served port new_port old_wire new_wire back.all end own.unused back.stands.records back.all_met back.has_made
    said (begun seen schema side.started port new_port old_wire new_wire wire own end back) (back.begins.others, back.begins.whole) in
    subst (λ (output : Output). SessionRunBeside schema old how (outside_of source output new_port readings)) (sym written) (record {
      feeders = end.feeders;
      port = port;
      shared = shared;
      run = finished_runs how (streams_of end.feeders) schema (own_outside old) source (left_in old_wire.seen) side (own_port port) readings f (all_untold (streams_of end.feeders) f.moments each.1)
          (handed_fed schema (own_port old.port) side f.waiting f.moments (deeds_in f.served.served) end.feeders end.visits f.served.beside end.ended);
      each = same_streams schema side.started end.feeders end.visits end.ended ∙ sym f.served.beside.streams;
      given = (left_in back.all).inputs;
      last = subst (IsLostLast how f.inputs) (ap (λ (p : Progress). p.inputs) (sym same)) f.lost;
      served = each.0;
      met = end.books;
    })

-- ---- what a session begins and ends with

-- the first port of a wire, as this one
abbrev first_of : Progress → VisitView → VisitView
first_of at visit = record {
  lock = visit.lock;
  author = 1;
  start = first_records at;
  seen = first_records at;
  finds = [];
  made = [];
  met = [];
  known = 1;
  counts = unused_port;
}

-- what contracts see of the ports of the session's wire
abbrev pub visit_history : VisitView → WireHistory
visit_history visit = record { name = visit.lock; others = others_of visit; own = given_in visit.made }

pub begins_there : (schema : List SchemaNode) (before : Outside) (source : Source) (count : ℕ) (recv : State) (at : Progress) (port : PortView) (readings : List ℕ) (visit : VisitView) (fed : List ℕ) (heard : List RecvEvent) (started : List Started)
    → IsFirstVisit at visit → heard ≡ [] → started ≡ [] → Begins schema before source count recv at port readings
    → IsServing fed schema before source count (place_of recv (left_in visit.seen) (feeder_state (visit_history visit) started) heard [] [] (standing_of port [] readings []))
begins_there schema before source count recv at port readings visit fed heard started first none_heard none_started begins =
    subst (λ (v : VisitView). IsServing fed schema before source count (place_of recv (left_in v.seen) (feeder_state (visit_history v) started) heard [] [] (standing_of port [] readings []))) (sym first)
    (subst (λ (h : List RecvEvent). IsServing fed schema before source count (place_of recv at (feeder_state (visit_history (first_of at visit)) started) h [] [] (standing_of port [] readings []))) (sym none_heard)
    (begins fed (feeder_state (visit_history (first_of at visit)) started) none_started (λ stream. refl)))

-- its feeders serve under the schema of its book
pub under_it : (schema : List SchemaNode) (old new : PortView) (before after : FeedersView) (first last : WireHistory) → (own_port old).opened.schema ≡ schema → before ≡ record { schema = schema; started = [] }
    → (AreOfSession (own_port old) first before → AreOfSession (own_port new) last after) → book_of (own_port new) ≡ book_of (own_port old) → after.schema ≡ schema
under_it schema old new before after first last is none ours same =
    (ours (ap (λ (f : FeedersView). f.schema) none ∙ sym is, subst (λ (all : List Started). AreOf old.book first.name all) (sym (ap (λ (f : FeedersView). f.started) none)) tt)).0
    ∙ ap (λ (w : Opened × List ℕ). w.0.schema) same ∙ is

-- no stream is one of none
none_fed : (streams : List ℕ) → AllByRecursion (λ (stream : ℕ). is_fed [] stream ≡ true) streams → streams ≡ []
none_fed [] are = refl
none_fed (stream ∷ streams) are = absurd (false≢true are.0)

-- ---- where nothing was served

pub nothing_served : (schema : List SchemaNode) (old : Outside) (source : Source) (count : ℕ) (recv : State) (at : Progress) → Begins schema (own_outside old) source count recv at (own_port old.port) old.readings
    → old.port.is_alone ≡ false → SessionRunBeside schema old hows.NoMemory (outside_of source at.output old.port old.readings)
nothing_served schema old source count recv at begins shared =
    let b = begins [] no_side refl (λ stream. refl) in
    let s = b.rests.stands in
    record {
      feeders = [];
      port = old.port;
      run = record {
        octets = b.octets;
        moments = s.moments;
        inputs = at.inputs;
        waiting = [];
        owed = [];
        calls = [];
        round = [];
        given = b.all;
        partly = wholly_read b.octets s.moments s.reader s.frames;
        made = wholly_read b.octets s.moments s.reader s.frames;
        accepted = s.writing.accepted;
        served = s.served.served;
        settled = tt;
        written = s.writing.wrote;
        untold = all_told (reads_of s.moments);
        handed = none_handed (handed_in (deeds_in s.served.served)) s.served.beside.streams;
      };
      shared = shared;
      each = sym s.served.beside.streams;
      given = at.inputs;
      last = record { lost = []; whole = sym (append-nil at.inputs); one = omega arith; none = λ no. refl };
      served = tt;
      met = refl;
    }

-- and where the greeting couldn't be written
pub greeting_broken : (schema : List SchemaNode) (old : Outside) (how : How) (source : Source) (output : Output) → SessionRun schema (own_outside old) how (outside_of source output (own_port old.port) old.readings)
    → old.port.is_alone ≡ false → SessionRunBeside schema old how (outside_of source output old.port old.readings)
greeting_broken schema old how source output run shared = record {
  feeders = [];
  port = old.port;
  shared = shared;
  run = run;
  each = sym (none_fed (handed_in (deeds_in run.served)) run.handed);
  given = run.inputs;
  last = record { lost = []; whole = sym (append-nil run.inputs); one = omega arith; none = λ no. refl };
  served = tt;
  met = refl;
}

-- the first port of a wire that is open, and was given nothing
pub first_is_own : (at : Progress) (visit : VisitView) → IsFirstVisit at visit → at.condition ≡ condition.Open → at.inputs ≡ [] → IsOwnVisit visit
first_is_own at visit first is_open none =
    subst IsOwnVisit (sym first) (record { unused = tt; records = (refl, is_open, tt, refl); at = at; first = refl; none = none })
