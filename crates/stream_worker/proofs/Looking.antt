-- The turns of a feeder at a port of a book.
use Rattle.std.proofs.Common.{◌≡◌, inl, inr, ℕ, ◌+◌, ◌<◌, ◌≤◌, ◌==◌, Bool, true, false, List, [], ◌∷◌, ◌++◌, length, map, refl, sym, ap, ◌∙◌, subst, append-nil, append_assoc, length-append, Option, Some, None, Result, Ok, Err, arith}
use Rattle.std.specs.Prelude.{take, if◌then◌else◌}
use Rattle.std.specs.List.{AllByRecursion}
use Rattle.std.proofs.lemmas.List.{map-append, append_cancel_left}
use Rattle.std.proofs.Math.Nat.{le_refl}
use Rattle.base_kinds.specs.declared.entry.Entry.{Entry}
use Rattle.base_kinds.specs.declared.entry.Kind.TheVariants as kinds
use Rattle.base_kinds.specs.declared.entry.View.{View}
use Rattle.base_kinds.specs.declared.path.Elem.{Elem}
use Rattle.base_kinds.specs.declared.refusal.Refusal.{Refusal}
use Rattle.base_kinds.specs.declared.refusal.Refusal.TheVariants as refusals
use Rattle.base_kinds.specs.Events.{view_of}
use Rattle.base_kinds.specs.Step.{after_expiry, is_due, next_entry, new_stamp}
use Rattle.book_port.specs.Answers.{AnswersLook, IsCutShort}
use Rattle.book_port.specs.Chronicles.{entries_by}
use Rattle.book_port.specs.Follows.{Turn}
use Rattle.book_port.specs.Ports.{PortView, TakesTurn, LooksOnce, marks_after}
use Rattle.book_port.proofs.Taking.{taken_one_more}
use Rattle.gnmi_kinds.specs.declared.reply.SubReply.{SubReply}
use Rattle.sub_plan.specs.declared.plan.Plan.{Plan}
use Rattle.sub_plan.specs.Groups.{patterns_of}
use Rattle.stream_laws.specs.Runs.{Moment, GoOn, view_at}
use Rattle.stream_laws.specs.Folds.{last_moment}
use Rattle.stream_laws.specs.Streams.{StreamView, stream_from, stream_after}
use Rattle.stream_laws.specs.Follows.{IsStreamAt, started_messages, messages_at, first_moment, moment_of}
use Rattle.stream_laws.proofs.Following.{runs_begin, starts_say, runs_stay, turns_go_on}
use Rattle.subscribe_calls.specs.Calls.{CallView, new_call, next_messages, next_stream, messages_with, call_after, view_in}
use Rattle.stream_worker.specs.Books.{StandAmong, IsMadeIn, AreRun, IsAtLast, HasRun, IsServed, most_idle, TakesLooks}

-- ---- one more item

among_more : {T : Type 0} (told turns more : List T) → StandAmong told turns → StandAmong told (turns ++ more)
among_more [] turns more is = tt
among_more {T} (one ∷ told) turns more is = (
  is.0,
  is.1 ++ more,
  ap (λ (l : List T). l ++ more) is.2 ∙ append_assoc is.0 (one ∷ is.1) more,
  among_more told is.1 more is.3,
)

among_one_more : {T : Type 0} (told turns : List T) (one : T) → StandAmong told turns → StandAmong (told ++ one ∷ []) (turns ++ one ∷ [])
among_one_more [] turns one is = (turns, [], refl, tt)
among_one_more {T} (first ∷ told) turns one is = (
  is.0,
  is.1 ++ one ∷ [],
  ap (λ (l : List T). l ++ one ∷ []) is.2 ∙ append_assoc is.0 (first ∷ is.1) (one ∷ []),
  among_one_more told is.1 one is.3,
)

made_later : (h more : List Entry) (turn : Turn) → IsMadeIn h turn → IsMadeIn (h ++ more) turn
made_later h more turn made = record {
  left = made.left;
  more = made.more ++ more;
  goes_on = ap (λ (l : List Entry). l ++ more) made.goes_on ∙ append_assoc turn.left made.more more;
}

all_later : (h more : List Entry) (told : List Turn) → AllByRecursion (IsMadeIn h) told → AllByRecursion (IsMadeIn (h ++ more)) told
all_later h more [] all = tt
all_later h more (turn ∷ told) all = (made_later h more turn all.0, all_later h more told all.1)

one_more_made : (h : List Entry) (told : List Turn) (turn : Turn) → AllByRecursion (IsMadeIn h) told → IsMadeIn h turn → AllByRecursion (IsMadeIn h) (told ++ turn ∷ [])
one_more_made h [] turn all made = (made, tt)
one_more_made h (first ∷ told) turn all made = (all.0, one_more_made h told turn all.1 made)

-- ---- what a run becomes

take_whole : {A : Type 0} (items : List A) → take (length items) items ≡ items
take_whole [] = refl
take_whole (item ∷ items) = ap (λ (rest : _). item ∷ rest) (take_whole items)

last_inside : (most time : ℕ) (first : Moment) (later : List Moment) → first.position ≤ most → GoOn most time first.position later
    → (last_moment first later).position ≤ most
last_inside most time first [] inside go = inside
last_inside most time first (moment ∷ moments) inside go = last_inside most moment.time moment moments go.2 go.3

at_end : (plan : Plan) (h : List Entry) → view_at plan.lines h (length h) ≡ view_in plan h
at_end plan h = ap (λ (front : List Entry). view_of front (patterns_of plan.lines)) (take_whole h)

-- the moment of the next turn
abbrev next_moment : Option StreamView → ℕ → ℕ → Moment
next_moment None now position = first_moment now position
next_moment (Some stream) now position = moment_of stream now position

next_reading : (stream : Option StreamView) (now position : ℕ) → (next_moment stream now position).reading ≡ now
next_reading None now position = refl
next_reading (Some stream) now position = refl

next_position : (stream : Option StreamView) (now position : ℕ) → (next_moment stream now position).position ≡ position
next_position None now position = refl
next_position (Some stream) now position = refl

begins : (plan : Plan) (h : List Entry) (now : ℕ) (view : View) → view_at plan.lines h (length h) ≡ view
    → IsAtLast plan (first_moment now (length h) ∷ []) (started_messages plan view) h (stream_from plan now view)
begins plan h now view is =
    subst (λ (v : View). IsAtLast plan (first_moment now (length h) ∷ []) (started_messages plan v) h (stream_from plan now v)) is
    (record {
      first = first_moment now (length h);
      later = [];
      all = refl;
      at = subst (λ (messages : List SubReply). IsStreamAt plan (first_moment now (length h)) [] messages h (stream_from plan now (view_at plan.lines h (length h))))
          (sym (starts_say plan (view_at plan.lines h (length h))))
          (runs_begin plan h now (length h) (le_refl (length h)));
    })

goes : (plan : Plan) (moments : List Moment) (messages : List SubReply) (h more : List Entry) (stream : StreamView) (now : ℕ) (view : View)
    → IsAtLast plan moments messages h stream → view_at plan.lines (h ++ more) (length (h ++ more)) ≡ view
    → IsAtLast plan (moments ++ moment_of stream now (length (h ++ more)) ∷ []) (messages ++ messages_at stream now view) (h ++ more) (stream_after stream now view)
goes plan moments messages h more stream now view run is =
    let at : IsStreamAt plan run.first run.later messages (h ++ more) stream = runs_stay plan run.first run.later messages h more stream run.at in
    let one : Moment = moment_of stream now (length (h ++ more)) in
    subst (λ (v : View). IsAtLast plan (moments ++ one ∷ []) (messages ++ messages_at stream now v) (h ++ more) (stream_after stream now v)) is
    (record {
      first = run.first;
      later = run.later ++ one ∷ [];
      all = ap (λ (l : List Moment). l ++ one ∷ []) run.all;
      at = turns_go_on plan run.first run.later messages (h ++ more) stream now (length (h ++ more)) at
          (last_inside (length (h ++ more)) run.first.time run.first run.later at.run.inside at.run.go_on) (le_refl (length (h ++ more)));
    })

run_goes_on : (plan : Plan) (stream : Option StreamView) (moments : List Moment) (messages : List SubReply) (h more : List Entry) (now : ℕ)
    → HasRun plan moments messages h stream
    → HasRun plan (moments ++ next_moment stream now (length (h ++ more)) ∷ []) (messages ++ next_messages plan stream now (view_in plan (h ++ more))) (h ++ more)
    (Some (next_stream plan stream now (view_in plan (h ++ more))))
run_goes_on plan None moments messages h more now none =
    subst (λ (ms : List Moment). IsAtLast plan (ms ++ first_moment now (length (h ++ more)) ∷ []) (messages ++ started_messages plan (view_in plan (h ++ more))) (h ++ more) (stream_from plan now (view_in plan (h ++ more)))) (sym none.0)
    (subst (λ (ms : List SubReply). IsAtLast plan (first_moment now (length (h ++ more)) ∷ []) (ms ++ started_messages plan (view_in plan (h ++ more))) (h ++ more) (stream_from plan now (view_in plan (h ++ more)))) (sym none.1)
    (begins plan (h ++ more) now (view_in plan (h ++ more)) (at_end plan (h ++ more))))
run_goes_on plan (Some stream) moments messages h more now run =
    goes plan moments messages h more stream now (view_in plan (h ++ more)) run (at_end plan (h ++ more))

run_stays : (plan : Plan) (stream : Option StreamView) (moments : List Moment) (messages : List SubReply) (h more : List Entry)
    → HasRun plan moments messages h stream → HasRun plan moments messages (h ++ more) stream
run_stays plan None moments messages h more none = none
run_stays plan (Some stream) moments messages h more run = record {
  first = run.first;
  later = run.later;
  all = run.all;
  at = runs_stay plan run.first run.later messages h more stream run.at;
}

are_run : (plan : Plan) (stream : Option StreamView) (moments : List Moment) (messages : List SubReply) (h : List Entry)
    → HasRun plan moments messages h stream → AreRun plan moments messages h
are_run plan None moments messages h none = subst (λ (ms : List Moment). AreRun plan ms messages h) (sym none.0) none.1
are_run plan (Some stream) moments messages h run = subst (λ (ms : List Moment). AreRun plan ms messages h) (sym run.all) run.at.run

-- a call that isn't served any more
pub unserved : (plan : Plan) (call : Option CallView) (moments : List Moment) (messages : List SubReply) (h : List Entry)
    → IsServed plan moments messages h call → IsServed plan moments messages h None
unserved plan None moments messages h served = served
unserved plan (Some call) moments messages h served = λ more.
    subst (λ (p : Plan). AreRun p moments messages (h ++ more)) served.0
    (are_run call.plan call.stream moments messages (h ++ more) (run_stays call.plan call.stream moments messages h more served.1))

-- ---- what a look leaves

-- the event of the clock isn't this author's
expiry_made : (author : ℕ) (h more : List Entry) (now : ℕ) → 0 < author → h ++ more ≡ after_expiry h now → entries_by author more ≡ []
expiry_made author h more now some is = by_test (is_due h now) is
  where
    expire : Entry
    expire = next_entry h (new_stamp h now) 0 kinds.Expire

    not_own : (0 == author) ≡ false
    not_own = grind (arith, some)

    only : (m : List Entry) → m ≡ expire ∷ [] → entries_by author m ≡ []
    only m e = ap (entries_by author) e ∙ ap (λ (b : Bool). if b then expire ∷ [] else []) not_own

    by_test : (due : Bool) → h ++ more ≡ (if due then h ++ expire ∷ [] else h) → entries_by author more ≡ []
    by_test true e = only more (append_cancel_left h more (expire ∷ []) e)
    by_test false e = ap (entries_by author) (append_cancel_left h more [] (e ∙ sym (append-nil h)))

cut_made : (author : ℕ) (h more left : List Entry) (now : ℕ) → 0 < author → left ≡ h ++ more → IsCutShort h now left → entries_by author more ≡ []
cut_made author h more left now some is (inl same) = ap (entries_by author) (append_cancel_left h more [] (sym is ∙ same ∙ sym (append-nil h)))
cut_made author h more left now some is (inr expired) = expiry_made author h more now some (sym is ∙ expired)

look_made : (author : ℕ) (h more left : List Entry) (now : ℕ) (patterns : List (List Elem)) (look : Result View Refusal) → 0 < author → left ≡ h ++ more
    → AnswersLook h now patterns look left → entries_by author more ≡ []
look_made author h more left now patterns (Ok view) some is answer = expiry_made author h more now some (sym is ∙ answer.1)
look_made author h more left now patterns (Err refusals.DiskFault) some is answer = cut_made author h more left now some is answer
look_made author h more left now patterns (Err refusals.NoMemory) some is answer = cut_made author h more left now some is answer
look_made author h more left now patterns (Err refusal) some is answer = absurd answer

sets_nothing : (from to : PortView) (now : ℕ) (patterns : List (List Elem)) (look : Result View Refusal) → LooksOnce from now patterns look to → to.made ≡ from.made
sets_nothing from to now patterns look looks =
    ap (λ (p : PortView). p.made) looks.taken.new_is
    ∙ ap (λ (l : List Entry). from.made ++ l) (look_made from.author looks.turn.found looks.taken.more looks.turn.left now patterns look looks.taken.own looks.taken.goes_on looks.answer)
    ∙ append-nil from.made

-- what it leaves goes on from what was seen before
seen_goes_on : {T : Type 0} (from to : PortView) (turn : Turn) (result : Result T Refusal) → TakesTurn from turn result to
    → (more : List Entry) × (turn.left ≡ from.seen ++ more) × (to.seen ≡ turn.left)
seen_goes_on from to turn result taken = (
  taken.begins.others ++ taken.more,
  taken.goes_on ∙ ap (λ (l : List Entry). l ++ taken.more) taken.begins.whole ∙ append_assoc from.seen taken.begins.others taken.more,
  ap (λ (p : PortView). p.seen) taken.new_is,
)

served_later : (plan : Plan) (call : Option CallView) (moments : List Moment) (messages : List SubReply) (h more : List Entry)
    → IsServed plan moments messages h call → IsServed plan moments messages (h ++ more) call
served_later plan None moments messages h more served = λ others.
    subst (λ (l : List Entry). AreRun plan moments messages l) (sym (append_assoc h more others)) (served (more ++ others))
served_later plan (Some call) moments messages h more served =
    (served.0, run_stays call.plan call.stream moments messages h more served.1)

-- a turn that isn't told
untold : (plan : Plan) (from mid to : PortView) (turns : List Turn) (messages : List SubReply) (call next : Option CallView) (now : ℕ)
    (patterns : List (List Elem)) (look : Result View Refusal) (looks : LooksOnce mid now patterns look to)
    → TakesLooks plan from turns messages call mid
    → mid.marks + most_idle call + 1 ≤ marks_after mid.marks look + most_idle next
    → ((moments : List Moment) → IsServed plan moments messages to.seen call → IsServed plan moments messages to.seen next)
    → TakesLooks plan from (turns ++ looks.turn ∷ []) messages next to
untold plan from mid to turns messages call next now patterns look looks fed counted serves =
    let on = seen_goes_on {T = View} mid to looks.turn look looks.taken in
    let seen : mid.seen ++ on.0 ≡ to.seen = sym (on.2 ∙ on.1) in
    let marks : to.marks ≡ marks_after mid.marks look = ap (λ (p : PortView). p.marks) looks.taken.new_is in
    let longer : length (turns ++ looks.turn ∷ []) ≡ length turns + 1 = length-append turns (looks.turn ∷ []) in
    let before = fed.others in
    record {
      taken = taken_one_more from mid to turns looks.turn fed.taken (inr (look, looks.taken));
      sets_nothing = sets_nothing mid to now patterns look looks ∙ fed.sets_nothing;
      told = fed.told;
      among = among_more fed.told turns (looks.turn ∷ []) fed.among;
      others = omega (arith, marks, longer, before, counted);
      made_in = subst (λ (h : List Entry). AllByRecursion (IsMadeIn h) fed.told) seen (all_later mid.seen on.0 fed.told fed.made_in);
      moments = fed.moments;
      readings = fed.readings;
      positions = fed.positions;
      served = serves fed.moments
          (subst (λ (h : List Entry). IsServed plan fed.moments messages h call) seen (served_later plan call fed.moments messages mid.seen on.0 fed.served));
    }

pub looks_failed : (plan : Plan) (from mid to : PortView) (turns : List Turn) (messages : List SubReply) (call : CallView) (now : ℕ)
    (patterns : List (List Elem)) (looks : LooksOnce mid now patterns (Err refusals.DiskFault) to)
    → TakesLooks plan from turns messages (Some call) mid → TakesLooks plan from (turns ++ looks.turn ∷ []) messages (Some call) to
looks_failed plan from mid to turns messages call now patterns looks fed =
    untold plan from mid to turns messages (Some call) (Some call) now patterns (Err refusals.DiskFault) looks fed (omega arith) (λ moments served. served)

pub looks_starved : (plan : Plan) (from mid to : PortView) (turns : List Turn) (messages : List SubReply) (call : CallView) (now : ℕ)
    (patterns : List (List Elem)) (look : Result View Refusal) (looks : LooksOnce mid now patterns look to)
    → TakesLooks plan from turns messages (Some call) mid → TakesLooks plan from (turns ++ looks.turn ∷ []) messages None to
looks_starved plan from mid to turns messages call now patterns look looks fed =
    let marks = no_less mid.marks look in
    untold plan from mid to turns messages (Some call) None now patterns look looks fed (omega (arith, marks)) (λ moments served. unserved plan (Some call) moments messages to.seen served)
  where
    no_less : (marks : ℕ) (l : Result View Refusal) → marks ≤ marks_after marks l
    no_less marks (Ok view) = omega arith
    no_less marks (Err refusals.DiskFault) = omega arith
    no_less marks (Err refusal) = omega arith

-- a call that isn't served any more, or needn't be
pub looks_end : (plan : Plan) (from to : PortView) (turns : List Turn) (messages : List SubReply) (call : Option CallView)
    → TakesLooks plan from turns messages call to → TakesLooks plan from turns messages None to
looks_end plan from to turns messages call fed =
    let before = fed.others in
    let idle = idle_most call in
    record {
      taken = fed.taken;
      sets_nothing = fed.sets_nothing;
      told = fed.told;
      among = fed.among;
      others = omega (arith, before, idle);
      made_in = fed.made_in;
      moments = fed.moments;
      readings = fed.readings;
      positions = fed.positions;
      served = unserved plan call fed.moments messages to.seen fed.served;
    }
  where
    idle_most : (c : Option CallView) → most_idle c ≤ 1
    idle_most None = omega arith
    idle_most (Some c) = omega arith

pub looks_begin : (plan : Plan) (from : PortView) → TakesLooks plan from [] [] (Some (new_call plan)) from
looks_begin plan from = record {
  taken = refl;
  sets_nothing = refl;
  told = [];
  among = tt;
  others = omega arith;
  made_in = tt;
  moments = [];
  readings = refl;
  positions = refl;
  served = (refl, (refl, refl));
}

-- ---- a turn that is told

told_served : (plan : Plan) (mid to : PortView) (messages : List SubReply) (moments : List Moment) (call : CallView) (now : ℕ) (view : View)
    (looks : LooksOnce mid now (patterns_of call.plan.lines) (Ok view) to) → IsServed plan moments messages mid.seen (Some call)
    → IsServed plan (moments ++ next_moment call.stream now (length looks.turn.left) ∷ []) (messages ++ messages_with call now view) to.seen (Some (call_after call now view))
told_served plan mid to messages moments call now view looks served =
    let on = seen_goes_on {T = View} mid to looks.turn (Ok view) looks.taken in (
      served.0,
      subst (λ (h : List Entry). HasRun call.plan (moments ++ next_moment call.stream now (length looks.turn.left) ∷ []) (messages ++ next_messages call.plan call.stream now view) h (Some (next_stream call.plan call.stream now view))) (sym on.2)
          (subst (λ (v : View). HasRun call.plan (moments ++ next_moment call.stream now (length looks.turn.left) ∷ []) (messages ++ next_messages call.plan call.stream now v) looks.turn.left (Some (next_stream call.plan call.stream now v))) (sym looks.answer.0)
          (subst (λ (h : List Entry). HasRun call.plan (moments ++ next_moment call.stream now (length h) ∷ []) (messages ++ next_messages call.plan call.stream now (view_in call.plan h)) h (Some (next_stream call.plan call.stream now (view_in call.plan h)))) (sym on.1)
          (run_goes_on call.plan call.stream moments messages mid.seen on.0 now served.1))),
    )

pub looks_told : (plan : Plan) (from mid to : PortView) (turns : List Turn) (messages : List SubReply) (call : CallView) (now : ℕ) (view : View)
    (looks : LooksOnce mid now (patterns_of call.plan.lines) (Ok view) to) → TakesLooks plan from turns messages (Some call) mid
    → TakesLooks plan from (turns ++ looks.turn ∷ []) (messages ++ messages_with call now view) (Some (call_after call now view)) to
looks_told plan from mid to turns messages call now view looks fed =
    let on = seen_goes_on {T = View} mid to looks.turn (Ok view) looks.taken in
    let seen : mid.seen ++ on.0 ≡ to.seen = sym (on.2 ∙ on.1) in
    let marks : to.marks ≡ mid.marks = ap (λ (p : PortView). p.marks) looks.taken.new_is in
    let longer : length (turns ++ looks.turn ∷ []) ≡ length turns + 1 = length-append turns (looks.turn ∷ []) in
    let told_longer : length (fed.told ++ looks.turn ∷ []) ≡ length fed.told + 1 = length-append fed.told (looks.turn ∷ []) in
    let before = fed.others in
    let left : looks.turn.left ≡ after_expiry looks.turn.found looks.turn.reading =
    subst (λ (n : ℕ). looks.turn.left ≡ after_expiry looks.turn.found n) (sym looks.reading) looks.answer.1 in
    let one : Moment = next_moment call.stream now (length looks.turn.left) in
    record {
      taken = taken_one_more from mid to turns looks.turn fed.taken (inr (Ok view, looks.taken));
      sets_nothing = sets_nothing mid to now (patterns_of call.plan.lines) (Ok view) looks ∙ fed.sets_nothing;
      told = fed.told ++ looks.turn ∷ [];
      among = among_one_more fed.told turns looks.turn fed.among;
      others = omega (arith, marks, longer, told_longer, before);
      made_in = one_more_made to.seen fed.told looks.turn
          (subst (λ (h : List Entry). AllByRecursion (IsMadeIn h) fed.told) seen (all_later mid.seen on.0 fed.told fed.made_in))
          (record { left = left; more = []; goes_on = on.2 ∙ sym (append-nil looks.turn.left) });
      moments = fed.moments ++ one ∷ [];
      readings = map-append (λ (m : Moment). m.reading) fed.moments (one ∷ [])
          ∙ ap (λ (l : List ℕ). l ++ one.reading ∷ []) fed.readings
          ∙ ap (λ (n : ℕ). map (λ (t : Turn). t.reading) fed.told ++ n ∷ []) (next_reading call.stream now (length looks.turn.left) ∙ sym looks.reading)
          ∙ sym (map-append (λ (t : Turn). t.reading) fed.told (looks.turn ∷ []));
      positions = map-append (λ (m : Moment). m.position) fed.moments (one ∷ [])
          ∙ ap (λ (l : List ℕ). l ++ one.position ∷ []) fed.positions
          ∙ ap (λ (n : ℕ). map (λ (t : Turn). length t.left) fed.told ++ n ∷ []) (next_position call.stream now (length looks.turn.left))
          ∙ sym (map-append (λ (t : Turn). length t.left) fed.told (looks.turn ∷ []));
      served = told_served plan mid to messages fed.moments call now view looks fed.served;
    }
