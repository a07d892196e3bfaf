-- A connection that a session served has its part in the history.
use Rattle.std.specs.Prelude.{if◌then◌else◌}
use Rattle.std.proofs.lemmas.Bool.{eqb-true}
use Rattle.std.proofs.Math.Nat.{le_refl}
use Rattle.std.proofs.Common.{◌≡◌, ◌⊎◌, inl, inr, ℕ, ◌==◌, ◌≤◌, arith, append-nil, List, [], ◌∷◌, ◌++◌, Bool, true, false, refl, sym, ap, ◌∙◌, subst, append_assoc, length, drop, map, Option, Some, None, Result, Ok, Err}
use Rattle.std.specs.List.{AllByRecursion}
use Rattle.base_kinds.specs.declared.entry.Entry.{Entry}
use Rattle.base_kinds.specs.declared.entry.Limits.{Limits}
use Rattle.base_kinds.specs.declared.refusal.Refusal.{Refusal}
use Rattle.base_kinds.specs.declared.refusal.Refusal.TheVariants.{DiskFault, NoMemory}
use Rattle.disk_model.specs.Content.{Content, Tells}
use Rattle.disk_model.specs.Moments.{LeavesNow}
use Rattle.commit_journal.specs.Images.{IsJournalOr}
use Rattle.base_kinds.specs.Schema.{SchemaNode}
use Rattle.environment.specs.Input.{Input as Source, Read}
use Rattle.environment.specs.Output.{Output}
use Rattle.gnmi_kinds.specs.declared.reply.SubReply.{SubReply}
use Rattle.sub_plan.specs.declared.plan.Plan.{Plan}
use Rattle.stream_laws.specs.Follows.{first_moment}
use Rattle.stream_laws.specs.Runs.{Moment}
use Rattle.stream_laws.specs.Streams.{StreamView}
use Rattle.subscribe_calls.specs.Calls.{HaveSaid}
use Rattle.stream_laws.proofs.Following.{messages_stay}
use Rattle.stream_worker.specs.Books.{AreRun}
use Rattle.book_port.specs.Chronicles.{entries_by}
use Rattle.book_port.specs.Follows.{Turn, Follows, GoesOn, made_by}
use Rattle.book_port.specs.Opened.{IsRun, Opened, rules_in}
use Rattle.book_port.proofs.Chronicled.{entries_by_more}
use Rattle.book_port.proofs.Following.{dropped, follows_goes_on}
use Rattle.book_port.specs.Ports.{PortView}
use Rattle.book_port.proofs.Taking.{taken_go_on}
use Rattle.h2_events.specs.Items.{Item, as_read, said_on}
use Rattle.h2_streams.specs.Calls.{reads_of}
use Rattle.h2_events.specs.declared.port.Ready.TheVariants.{Busy}
use Rattle.h2_events.specs.declared.said.Said.{Said}
use Rattle.h2_events.specs.declared.said.Said.TheVariants.{Finish}
use Rattle.std.proofs.lemmas.List.{append_cancel_left}
use Rattle.h2_send.specs.Inputs.{Input}
use Rattle.h2_send.specs.Lines.{first_line}
use Rattle.h2_send.specs.Offers.{ready_on}
use Rattle.h2_send.specs.Orders.{line_after, order_of}
use Rattle.grpc_requests.specs.declared.request.Request.{Request}
use Rattle.stream_workers.specs.Feeders.{Feeder, MeetsEach, is_fed, streams_of}
use Rattle.stream_workers.specs.Ports.{own_port}
use Rattle.session_core.specs.declared.how.How.{How}
use Rattle.session_core.specs.declared.how.How.TheVariants as hows
use Rattle.session_core.specs.declared.waiting.Waiting.{Waiting}
use Rattle.session_core.specs.Deeds.{Deed, handed_in, said_to, turns_in}
use Rattle.session_core.specs.FeederRuns.{ServesCall, SessionRunBeside}
use Rattle.session_core.specs.Feeding.{left_last}
use Rattle.session_core.specs.Reading.{IsGiven}
use Rattle.session_core.specs.Runs.{IsAtRest, IsGivenBeside, IsSettled, Outside, RunBeside, SessionRun, outside_of, start_of}
use Rattle.session_core.specs.Rounds.{AreTimely}
use Rattle.session_core.specs.Saying.{AreBehind, IsFront as IsSaidFront, IsSaid, waits_on}
use Rattle.session_core.specs.Serving.{Standing, deeds_in, first_service, service_of, standing_of, without_fed}
use Rattle.session_core.specs.laws.FeederLaws.{SaysFront}
use Rattle.session_core.specs.laws.PollLaws.{IsTurnOn, SaysPolledOrEnds}
use Rattle.session_core.specs.laws.RunLaws.{AsksOnce, SaysStateOrEnds}
use Rattle.session_core.specs.laws.StreamLaws.{SaysRun, said_in_turns}
use Rattle.connection_server.specs.laws.SessionLaws.{StandIn}
use Rattle.gnmi_server.specs.Serving.{Served}
use Rattle.gnmi_server.specs.Sessions.{ServesLink}
use Rattle.gnmi_server.specs.laws.HistoryLaws.{StandsIn}
use Rattle.program.specs.SessionCommand.{first_port}
use Rattle.program.specs.headline.Terms.{IsPrefix}
use Rattle.program.specs.headline.Marks.{FoldsAtMarks, IsUpToMark, ReadsState}
use Rattle.program.specs.headline.Crashes.{SurvivesCrash}
use Rattle.program.proofs.headline.Prefixes.{prefix_again, turns_are_prefixes}
use Rattle.program.proofs.headline.Crashing.{prefix_itself, crashes_leave_prefixes}
use Rattle.program.proofs.headline.Marking.{marks_fold, reads_state}
use Rattle.program.specs.headline.Connections.{WasHandedOver, Converses, IsAllSaid, IsWhole, SaysState, SaysStateOrRefuses, SaysStates, Subscriber}
use Rattle.program.specs.headline.Sessions.{IsEnd, TakesPart}
use Rattle.program.specs.headline.OneHistory.{OneConnection}
use Rattle.program.proofs.headline.Below.{follow, follow_alone, itself, once_calls_say, own_entries, poll_calls_say, stream_calls_say, taken}
use Rattle.session_core.proofs.FeederRuns.{fed_streams_none_older}
use Rattle.session_core.proofs.Streams.{data_fronts}
use Rattle.program.proofs.headline.Answered.{all_answered}
use Rattle.program.proofs.headline.Calling.{fed_streams, handed_over, none_handed, subscriber, turns_begun}
use Rattle.program.proofs.headline.Clocked.{all_clocked}

pub crashes_so : (limits : Limits) (h : List Entry) (doubt : Option Entry) (told : Option Content) → LeavesNow (IsJournalOr limits h doubt) told → Tells told (λ content. SurvivesCrash limits h doubt content.mask)
crashes_so limits h doubt None leaves = tt
crashes_so limits h doubt (Some content) leaves = crashes_leave_prefixes limits h doubt content.mask leaves

-- ---- what came

given_so : (how : How) (octets : List ℕ) (old new : Source) → IsGiven how octets old new → new.given ≡ old.given ++ octets
given_so hows.Closed octets old new is = is.all.given
given_so hows.Cut octets old new is = is.all.given
given_so (hows.Protocol code) octets old new is = is.given
given_so hows.ReadFault octets old new is = ap (λ (s : Source). s.given) is.failed.2 ∙ is.failed.1.given
given_so hows.WriteFault octets old new is = is.given
given_so hows.Spent octets old new is = is.given
given_so hows.NoMemory octets old new is = is.given

came_so : (fed : List ℕ) (how : How) (octets : List ℕ) (old new : Source) → IsGivenBeside fed how octets old new → new.given ≡ old.given ++ octets
came_so [] how octets old new is = given_so how octets old new is
came_so (stream ∷ fed) how octets old new (inl is) = given_so how octets old new is
came_so (stream ∷ fed) how octets old new (inr is) = ap (λ (s : Source). s.given) is.1.failed.2 ∙ is.1.failed.1.given

-- ---- what is said

said_so : (stream : ℕ) (waiting : List Waiting) (order : List Item) (deeds : List Deed) → IsSaid stream waiting order deeds → IsSaidFront (said_on stream order) (said_to stream deeds)
said_so stream waiting order deeds (inl is) = record { rest = waits_on stream waiting; joined = sym is }
said_so stream waiting order deeds (inr is) = is.1

-- where the connection ended whole it is at rest
rests : (how : How) (owed : List Request) (inputs : List Input) (waiting : List Waiting) (standing : Standing) → IsSettled how owed inputs waiting standing → IsWhole how → IsAtRest owed inputs waiting standing
rests hows.Closed owed inputs waiting standing is whole = is
rests hows.Cut owed inputs waiting standing is whole = is
rests (hows.Protocol code) owed inputs waiting standing is whole = is
rests hows.ReadFault owed inputs waiting standing is whole = is
rests hows.Spent owed inputs waiting standing is whole = is
rests hows.WriteFault owed inputs waiting standing is whole = absurd whole
rests hows.NoMemory owed inputs waiting standing is whole = absurd whole

waits_so : (stream : ℕ) (inputs : List Input) (waiting : List Waiting) → AreBehind inputs waiting → (waits_on stream waiting ≡ []) ⊎ (ready_on stream (line_after first_line inputs).streams ≡ Busy)
waits_so stream inputs [] behind = inl refl
waits_so stream inputs (w ∷ waiting) behind = by_test (w.stream == stream) refl (waits_so stream inputs waiting behind.1)
  where
    by_test : (b : Bool) → (w.stream == stream) ≡ b → (waits_on stream waiting ≡ []) ⊎ (ready_on stream (line_after first_line inputs).streams ≡ Busy) → ((if b then w.said ∷ waits_on stream waiting else waits_on stream waiting) ≡ []) ⊎ (ready_on stream (line_after first_line inputs).streams ≡ Busy)
    by_test true is rest = inr (subst (λ (n : ℕ). ready_on n (line_after first_line inputs).streams ≡ Busy) (eqb-true w.stream stream is) behind.0)
    by_test false is rest = rest

all_said_so : (stream : ℕ) (inputs : List Input) (waiting : List Waiting) (deeds : List Deed) → AreBehind inputs waiting → IsSaid stream waiting (order_of inputs) deeds → IsAllSaid stream inputs deeds
all_said_so stream inputs waiting deeds behind (inr is) = inr (inl is.0)
all_said_so stream inputs waiting deeds behind (inl is) = elim (waits_so stream inputs waiting behind) [
  | inl none ↦ inl (sym (append-nil (said_on stream (order_of inputs))) ∙ ap (λ (l : List Said). said_on stream (order_of inputs) ++ l) (sym none) ∙ is)
  | inr busy ↦ inr (inr busy)
]

-- ---- streams

nothing_folds : (plan : Plan) (h : List Entry) (since : ℕ) → FoldsAtMarks plan h since []
nothing_folds plan h since = record {
  began = since;
  not_before = le_refl since;
  mark = λ prefix is. absurd (none prefix is);
  from_there = λ prefix is. absurd (none prefix is);
  rises = λ prefix more one two. absurd (none prefix one);
}
  where
    none : (prefix : List SubReply) → IsUpToMark [] prefix → ⊥
    none [] is = cc (is.1)
    none (message ∷ prefix) is = cc (is.0.1)

prefix_folds : (plan : Plan) (h : List Entry) (since : ℕ) (messages first rest : List SubReply) → messages ≡ first ++ rest → FoldsAtMarks plan h since messages → FoldsAtMarks plan h since first
prefix_folds plan h since messages first rest whole folds = record {
  began = folds.began;
  not_before = folds.not_before;
  mark = λ prefix is. folds.mark prefix (up prefix is);
  from_there = λ prefix is. folds.from_there prefix (up prefix is);
  rises = λ prefix more one two. folds.rises prefix more (up prefix one) (up (prefix ++ more) two);
}
  where
    up : (prefix : List SubReply) → IsUpToMark first prefix → IsUpToMark messages prefix
    up prefix is = ((is.0.0 ++ rest, whole ∙ ap (λ l. l ++ rest) is.0.1 ∙ append_assoc prefix is.0.0 rest), is.1)

empty_prefix : (messages first rest : List SubReply) → messages ≡ [] → messages ≡ first ++ rest → first ≡ []
empty_prefix messages [] rest none whole = refl
empty_prefix messages (one ∷ first) rest none whole = let both : [] ≡ one ∷ (first ++ rest) = sym none ∙ whole in absurd (cc both)

run_folds : (plan : Plan) (since : ℕ) (moments : List Moment) (messages first rest : List SubReply) (seen h more : List Entry) → h ≡ seen ++ more → AreRun plan moments messages seen → AllByRecursion (λ (moment : Moment). since ≤ moment.position) moments → messages ≡ first ++ rest → FoldsAtMarks plan h since first
run_folds plan since [] messages first rest seen h more whole run not_before cut =
    subst (λ l. FoldsAtMarks plan h since l) (sym (empty_prefix messages first rest run cut)) (nothing_folds plan h since)
run_folds plan since (moment ∷ later) messages first rest seen h more whole run not_before cut =
    prefix_folds plan h since messages first rest cut (subst (λ l. FoldsAtMarks plan l since messages) (sym whole) (marks_fold plan moment later messages (seen ++ more) since not_before.0 (messages_stay plan moment later messages seen more run)))

says_so : (schema : List SchemaNode) (plan : Plan) (since : ℕ) (seen h more : List Entry) (said : List Said) → h ≡ seen ++ more → (says : SaysFront schema plan seen said) → AllByRecursion (λ (moment : Moment). since ≤ moment.position) says.moments → SaysStates schema plan h since said
says_so schema plan since seen h more said whole says not_before = record {
  messages = says.first;
  folds = run_folds plan since says.moments says.messages says.first says.rest seen h more whole says.run not_before says.whole;
  end = says.end;
  ends = elim (says.ends) [
    | inl none ↦ inl none
    | inr memory ↦ inr (Some NoMemory, memory)
  ];
  said_is = says.said_is;
}

-- what a subscriber was handed over for, and what it was told since
abbrev IsTold : List SchemaNode → List Deed → List Entry → List Entry → List Item → Subscriber → Type 0
IsTold schema deeds seen h order one =
    (over : WasHandedOver deeds one) × SaysStates schema one.plan h (length (left_last seen (turns_in over.before))) (said_on one.stream order)

all_say : (schema : List SchemaNode) (port : PortView) (deeds : List Deed) (given : List Input) (seen h more : List Entry) (order : List Item) (feeders : List Feeder) → h ≡ seen ++ more
    → AllByRecursion (λ (feeder : Feeder). (serves : ServesCall schema port deeds given feeder) × (says : SaysFront schema feeder.plan seen (said_on feeder.stream order)) × AllByRecursion (λ (moment : Moment). length (left_last port.seen (turns_in serves.before)) ≤ moment.position) says.moments) feeders
    → AllByRecursion (IsTold schema deeds port.seen h order) (map subscriber feeders)
all_say schema port deeds given seen h more order [] whole all = tt
all_say schema port deeds given seen h more order (feeder ∷ feeders) whole all = (
  (
    handed_over schema port deeds given feeder all.0.0,
    says_so schema feeder.plan (length (left_last port.seen (turns_in all.0.0.before))) seen h more (said_on feeder.stream order) whole all.0.1 all.0.2,
  ),
  all_say schema port deeds given seen h more order feeders whole all.1,
)

-- ---- calls that the session serves itself

running_so : (plan : Plan) (messages : List SubReply) (seen h more : List Entry) (stream : Option StreamView) → h ≡ seen ++ more → HaveSaid plan messages seen stream → FoldsAtMarks plan h 0 messages
running_so plan messages seen h more None whole none = subst (λ l. FoldsAtMarks plan h 0 l) (sym none) (nothing_folds plan h 0)
running_so plan messages seen h more (Some stream) whole at =
    subst (λ l. FoldsAtMarks plan l 0 messages) (sym whole) (marks_fold plan at.first at.later messages (seen ++ more) 0 (zero_le at.first.position) (messages_stay plan at.first at.later messages seen more at.at.run))
  where
    zero_le : (n : ℕ) → 0 ≤ n
    zero_le n = omega (arith)

own_so : (schema : List SchemaNode) (plan : Plan) (seen h more : List Entry) (said : List Said) → h ≡ seen ++ more → SaysRun schema plan seen said → SaysStates schema plan h 0 said
own_so schema plan seen h more said whole says = record {
  messages = says.messages;
  folds = running_so plan says.messages seen h more says.stream whole says.run;
  end = says.end;
  ends = elim (says.ends) [
    | inl none ↦ inl none
    | inr memory ↦ inr (Some NoMemory, memory)
  ];
  said_is = says.said_is;
}

once_so : (schema : List SchemaNode) (plan : Plan) (seen h more : List Entry) (deed : Deed) → h ≡ seen ++ more → SaysStateOrEnds schema plan seen deed → SaysStateOrRefuses schema plan h deed
once_so schema plan seen h more deed whole (inl says) =
    let first = first_moment says.turn.reading (length says.turn.left) in
    inl (record {
      turn = says.turn;
      taken = says.taken;
      messages = says.messages;
      reads = subst (λ l. ReadsState plan l (length says.turn.left) says.messages) (sym whole) (reads_state plan first says.messages (seen ++ more) (messages_stay plan first [] says.messages seen more says.run));
      end = Finish None ∷ [];
      ends = inr (None, refl);
      said_is = says.told;
    })
once_so schema plan seen h more deed whole (inr (inl fault)) = inr (DiskFault, fault)
once_so schema plan seen h more deed whole (inr (inr memory)) = inr (NoMemory, memory)

all_once : (schema : List SchemaNode) (seen h more : List Entry) (deeds : List Deed) → h ≡ seen ++ more → AllByRecursion (λ (deed : Deed). (plan : Plan) → AsksOnce plan deed → SaysStateOrEnds schema plan seen deed) deeds → AllByRecursion (λ (deed : Deed). (plan : Plan) → AsksOnce plan deed → SaysStateOrRefuses schema plan h deed) deeds
all_once schema seen h more [] whole all = tt
all_once schema seen h more (deed ∷ deeds) whole all =
    ((λ plan asks. once_so schema plan seen h more deed whole (all.0 plan asks)), all_once schema seen h more deeds whole all.1)

end_so : (last : Bool) → IsEnd (if last then Finish None ∷ [] else [])
end_so true = inr (None, refl)
end_so false = inl refl

poll_so : (schema : List SchemaNode) (plan : Plan) (seen h more : List Entry) (deed : Deed) → h ≡ seen ++ more → SaysPolledOrEnds schema plan seen deed → SaysStateOrRefuses schema plan h deed
poll_so schema plan seen h more deed whole (inl says) =
    let first = first_moment says.turn.reading (length says.turn.left) in
    inl (record {
      turn = says.turn;
      taken = says.taken;
      messages = says.messages;
      reads = subst (λ l. ReadsState plan l (length says.turn.left) says.messages) (sym whole) (reads_state plan first says.messages (seen ++ more) (messages_stay plan first [] says.messages seen more says.run));
      end = if says.last then Finish None ∷ [] else [];
      ends = end_so says.last;
      said_is = says.told;
    })
poll_so schema plan seen h more deed whole (inr (inl fault)) = inr (DiskFault, fault)
poll_so schema plan seen h more deed whole (inr (inr memory)) = inr (NoMemory, memory)

all_polls : (schema : List SchemaNode) (plan : Plan) (stream : ℕ) (seen h more : List Entry) (deeds : List Deed) → h ≡ seen ++ more → AllByRecursion (λ (deed : Deed). IsTurnOn stream deed → SaysPolledOrEnds schema plan seen deed) deeds → AllByRecursion (λ (deed : Deed). IsTurnOn stream deed → SaysStateOrRefuses schema plan h deed) deeds
all_polls schema plan stream seen h more [] whole all = tt
all_polls schema plan stream seen h more (deed ∷ deeds) whole all =
    ((λ turned. poll_so schema plan seen h more deed whole (all.0 turned)), all_polls schema plan stream seen h more deeds whole all.1)

-- ---- the connection

pub converses : (fed : List ℕ) (subscribers : List Subscriber) (schema : List SchemaNode) (old new : Outside) (how : How) (run : RunBeside fed schema old how new) (h : List Entry) → IsPrefix new.port.seen h → Follows old.port.author old.port.seen (turns_in (deeds_in run.served)) h → entries_by old.port.author (drop (length old.port.seen) h) ≡ made_by old.port.author (turns_in (deeds_in run.served)) → map (λ (one : Subscriber). one.stream) subscribers ≡ fed → fed ≡ handed_in (deeds_in run.served) → AllByRecursion (IsTold schema (deeds_in run.served) old.port.seen h (order_of run.inputs)) subscribers → Converses schema (rules_in old.port.opened) h old.port.author old.port.seen how old.input old.output new.input new.output
converses fed subscribers schema old new how run h prefix in_order own names handed says =
    let deeds = deeds_in run.served in
    let order = order_of run.inputs in
    let turned = taken fed schema old new how run in
    let go : AllByRecursion GoesOn (turns_in deeds) = taken_go_on old.port new.port (turns_in deeds) turned in
    let part : TakesPart schema (rules_in old.port.opened) h old.port.author old.port.seen deeds = record {
      answers = all_answered schema (first_service (start_of schema old)) deeds (service_of (standing_of new.port run.calls new.readings run.round)) run.served.done;
      clocked = all_clocked schema (first_service (start_of schema old)) deeds (service_of (standing_of new.port run.calls new.readings run.round)) run.served.done;
      at = turns_are_prefixes old.port.author old.port.seen (turns_in deeds) h go in_order;
      in_order = in_order;
      once = own;
    } in
    record {
      octets = run.octets;
      moments = run.moments;
      inputs = run.inputs;
      came = came_so fed how run.octets old.input new.input run.given;
      given = subst (λ l. IsGivenBeside l how run.octets old.input new.input) (sym names) run.given;
      frames = run.made;
      accepted = run.accepted;
      one_order = subst (λ l. without_fed l (as_read order) ≡ without_fed l (reads_of run.moments)) (sym names) run.served.one_order;
      deeds = deeds;
      owed = run.owed;
      asked = run.served.asked;
      none_owed = λ whole. (rests how run.owed run.inputs run.waiting (standing_of new.port run.calls new.readings run.round) run.settled whole).none_owed;
      part = part;
      fed = subscribers;
      handed = names ∙ handed;
      said = λ stream none. said_so stream run.waiting order deeds (run.served.said stream (sym (ap (λ l. is_fed l stream) names) ∙ none));
      all_said = λ whole stream none. all_said_so stream run.inputs run.waiting deeds (rests how run.owed run.inputs run.waiting (standing_of new.port run.calls new.readings run.round) run.settled whole).behind (run.served.said stream (sym (ap (λ l. is_fed l stream) names) ∙ none));
      streams = says;
      once = all_once schema new.port.seen h prefix.0 deeds prefix.1 (once_calls_say fed schema old new how run);
      own_streams = λ before after deed plan whole asks none_before none_after. own_so schema plan new.port.seen h prefix.0 (said_in_turns deed.stream after) prefix.1 (stream_calls_say fed schema old new how run before after deed plan whole asks none_before none_after);
      timely = subst (λ l. AreTimely l [] deeds) (sym names) run.served.timely;
      turns = turns_begun schema old.port (service_of (standing_of new.port run.calls new.readings run.round)) deeds run.served.done;
      polls = λ before after deed plan whole asks none_before none_after. all_polls schema plan deed.stream new.port.seen h prefix.0 after prefix.1 (poll_calls_say fed schema old new how run before after deed plan whole asks none_before none_after);
      out = run.written;
      wrote = λ stream. data_fronts fed schema old new how run stream;
    }

-- ---- beside feeders

met_on : (old : PortView) (feeders : List Feeder) (new : PortView) → MeetsEach old feeders new → IsPrefix old.seen new.seen
met_on old [] new is = subst (λ (p : PortView). IsPrefix old.seen p.seen) (sym is) (prefix_itself old.seen)
met_on old (feeder ∷ feeders) new (next, first, rest) =
    prefix_again old.seen next.seen new.seen (first.has_own.others, first.has_own.whole) (met_on next feeders new rest)

pub converses_beside : (one : Served Source Output) (h : List Entry) → IsPrefix one.left.port.seen h → (run : ServesLink (itself {A = Source}) (itself {A = Output}) one.link one.left) → StandsIn (itself {A = Source}) (itself {A = Output}) h one run → Converses one.link.port.opened.schema (rules_in one.link.port.opened) h one.link.port.author one.link.port.seen one.left.how one.link.input one.link.output one.left.input one.left.output
converses_beside one h prefix serves stands =
    let run = serves.run in
    let schema = one.link.port.opened.schema in
    converses (streams_of run.feeders) (map subscriber run.feeders) schema (outside_of one.link.input one.link.output (own_port one.link.port) []) (outside_of one.left.input one.left.output (own_port run.port) serves.readings) one.left.how run.run h
    (prefix_again run.port.seen one.left.port.seen h (met_on run.port run.feeders one.left.port run.met) prefix)
    stands.own.follow stands.own.own (fed_streams run.feeders) run.each
    (all_say schema one.link.port (deeds_in run.run.served) run.given one.left.port.seen h prefix.0 (order_of run.run.inputs) run.feeders prefix.1 (fed_streams_none_older schema (outside_of one.link.input one.link.output one.link.port []) (outside_of one.left.input one.left.output one.left.port serves.readings) one.left.how run))

-- ---- one connection alone

own_since : (author : ℕ) (seen h : List Entry) (turns : List Turn) → AllByRecursion GoesOn turns → Follows author seen turns h → entries_by author h ≡ entries_by author seen ++ made_by author turns → entries_by author (drop (length seen) h) ≡ made_by author turns
own_since author seen h turns go follow own =
    let on = follows_goes_on author seen turns h go follow in
    append_cancel_left (entries_by author seen) (entries_by author (drop (length seen) h)) (made_by author turns)
    (sym (entries_by_more author seen (drop (length seen) h)) ∙ ap (entries_by author) (ap (λ l. seen ++ l) (ap (drop (length seen)) on.1 ∙ dropped seen on.0) ∙ sym on.1) ∙ own)

pub session_keeps : (opened : Opened) (input : Source) (output : Output) (clock : List ℕ) (new : Outside) (how : How) (told : Option Content) (doubt : Option Entry) → SessionRun opened.schema (outside_of input output (first_port opened) clock) how new → IsRun opened new.port.seen → LeavesNow (IsJournalOr opened.limits new.port.seen doubt) told → OneConnection opened how input output clock new.input new.output new.readings told
unfolding converses
session_keeps opened input output clock new how told doubt run legal leaves =
    let old = outside_of input output (first_port opened) clock in
    let schema = opened.schema in
    let deeds = deeds_in run.served in
    let in_order = follow [] schema old new how run in
    let own = own_since 1 opened.base new.port.seen (turns_in deeds) (taken_go_on old.port new.port (turns_in deeds) (taken [] schema old new how run)) in_order (own_entries [] schema old new how run) in
    record {
      h = new.port.seen;
      legal = legal;
      part = converses [] [] schema old new how run new.port.seen (prefix_itself new.port.seen) in_order own refl (none_handed (handed_in deeds) run.handed) tt;
      alone = follow_alone [] schema old new how run refl;
      readings = run.served.clock;
      doubt = doubt;
      survives = crashes_so opened.limits new.port.seen doubt told leaves;
    }
