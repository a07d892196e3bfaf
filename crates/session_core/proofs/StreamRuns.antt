-- What the turns of a call of mode STREAM say is a run of its stream.
use Rattle.std.proofs.Common.{◌≡◌, ◌⊎◌, inl, inr, ℕ, zero, suc, ◌==◌, nat_lt, List, [], ◌∷◌, ◌++◌, Bool, true, false, ◌&&◌, cond, map, refl, sym, ap, ◌∙◌, subst, append-nil, append_assoc, Option, Some, None, Result, Ok, Err}
use Rattle.std.specs.Prelude.{if◌then◌else◌}
use Rattle.std.proofs.lemmas.Bool.{eq-eqb, false≢true}
use Rattle.base_kinds.specs.declared.entry.Entry.{Entry}
use Rattle.base_kinds.specs.declared.entry.View.{View}
use Rattle.base_kinds.specs.declared.refusal.Refusal.{Refusal}
use Rattle.base_kinds.specs.declared.refusal.Refusal.TheVariants.{DiskFault, NoMemory}
use Rattle.base_kinds.specs.declared.request.ListMode.{ListMode}
use Rattle.base_kinds.specs.declared.request.ListMode.TheVariants as modes
use Rattle.base_kinds.specs.Schema.{SchemaNode}
use Rattle.book_port.specs.Ports.{PortView, LooksOnce}
use Rattle.gnmi_kinds.specs.declared.reply.SubReply.{SubReply}
use Rattle.h2_events.specs.declared.said.Said.{Said}
use Rattle.h2_events.specs.declared.said.Said.TheVariants.{Message}
use Rattle.request_desk.specs.Subscribes.{subscribe_step}
use Rattle.request_desk.specs.declared.subscribe_steps.SubscribeStep.{SubscribeStep}
use Rattle.request_desk.specs.declared.subscribe_steps.SubscribeStep.TheVariants.{Begin, Poll}
use Rattle.grpc_requests.specs.declared.request.Asked.{Asked}
use Rattle.grpc_requests.specs.declared.request.Asked.TheVariants as asks
use Rattle.grpc_requests.specs.declared.request.Later.{Later}
use Rattle.grpc_requests.specs.declared.request.Later.TheVariants as later
use Rattle.stream_laws.specs.Streams.{StreamView}
use Rattle.sub_plan.specs.declared.plan.Plan.{Plan}
use Rattle.sub_plan.specs.Groups.{patterns_of}
use Rattle.subscribe_calls.specs.Calls.{CallView, HaveSaid, IsCallAt, view_in, call_after, messages_with, replies_octets, reply_octets}
use Rattle.subscribe_calls.specs.Turns.{Answers}
use Rattle.subscribe_calls.proofs.Going.{calls_go_on, calls_stay}
use Rattle.session_core.specs.declared.served.Served.{Served}
use Rattle.session_core.specs.Deeds.{Deed, Doing, Answering, Handing, Turning, Dropping, Service, IsAnswer, IsBegun, IsFirst, IsNext, IsPolled, IsEnding, IsHeardBy, IsPlain, IsCallTurn, IsTurnIn, IsDone, AreDone, kept_streaming, most_polls, new_served, others_than, said_streaming, told, told_all, turns_in}
use Rattle.session_core.specs.Rounds.{is_turn}
use Rattle.session_core.specs.laws.StreamLaws.{AsksStream, IsFirstMessage, NoneBegins, SaysRun, said_in_turns}
use Rattle.session_core.proofs.History.{turns_taken}
use Rattle.session_core.proofs.Apart.{calls_on, elsewhere, is_it, left_there, none_found, none_of_others, on-append, one_left, with_one}
use Rattle.session_core.proofs.Keeping.{Changes, calls_in, changes}
use Rattle.session_core.proofs.Moves.{Moved, moves}
use Rattle.session_core.proofs.OnceRuns.{one_goes_on, turns_go_on}

-- ---- behind the end of the call

pub over_stays : (s : ℕ) (b : Bool) (deed : Deed) (old new : List Served) → (deed.stream == s) ≡ b → Changes deed old new → (IsFirstMessage deed.doing → (deed.stream == s) ≡ false) → calls_on s old ≡ [] → calls_on s new ≡ []
over_stays s false deed old new is change first none = elsewhere s deed old new change is ∙ none
over_stays s true deed old new is (inl same) first none = ap (calls_on s) same ∙ none
over_stays s true deed old new is (inr (inl b)) first none = absurd (false≢true (sym (first b.first) ∙ is))
over_stays s true deed old new is (inr (inr e)) first none = absurd (none_found s deed old e.others e.more e.call e.among e.on is none)

pub no_turn : (schema : List SchemaNode) (s : ℕ) (b : Bool) (deed : Deed) (doing : Doing) (old new : Service) → (deed.stream == s) ≡ b → IsDone schema doing deed old new → calls_on s old.calls ≡ [] → (b && is_turn doing) ≡ false
no_turn schema s false deed doing old new is done none = refl
no_turn schema s true deed (Answering asked) old new is done none = refl
no_turn schema s true deed (Handing body) old new is done none = refl
no_turn schema s true deed Dropping old new is done none = refl
no_turn schema s true deed Turning old new is done none = absurd (none_found s deed old.calls done.others done.later done.served done.among.whole done.among.on is none)

pub over_says : (schema : List SchemaNode) (s : ℕ) (old : Service) (deeds : List Deed) (last : Service) → AreDone schema old deeds last → NoneBegins s deeds → calls_on s old.calls ≡ [] → said_in_turns s deeds ≡ []
over_says schema s old [] last done first none = refl
over_says schema s old (deed ∷ deeds) last (next, one, rest) first none =
    ap (λ (b : Bool). if b then deed.said ++ said_in_turns s deeds else said_in_turns s deeds) (no_turn schema s (deed.stream == s) deed deed.doing old next refl one none)
    ∙ over_says schema s next deeds last rest first.1 (over_stays s (deed.stream == s) deed old.calls next.calls refl (changes schema deed old next deed.doing refl one) first.0 none)

-- ---- what was seen goes on

pub goes_on : (deed : Deed) (old new : PortView) → Moved deed old new → (more : List Entry) × (new.seen ≡ old.seen ++ more)
goes_on deed old new (inl still) = ([], ap (λ (p : PortView). p.seen) still.same ∙ sym (append-nil old.seen))
goes_on deed old new (inr moved) = one_goes_on old new moved.turn moved.takes

-- ---- what becomes of a call with what comes behind its first message

pub record IsKept (served : Served) (others more new : List Served) : Type 0 where
  pub call : Served
  pub on : call.stream ≡ served.stream
  pub same : call.call ≡ served.call
  pub whole : new ≡ others ++ call ∷ [] ++ more

abbrev pub Fate : Served → List Served → List Served → List Served → List Served → Type 0
Fate served others more old new = (new ≡ old) ⊎ (new ≡ others ++ more) ⊎ IsKept served others more new

module _ (served : Served) (others more : List Served) (deed : Deed) (old new : Service) where
  gone : (said : List Said) → IsPlain said (others ++ more) deed old new → Fate served others more old.calls new.calls
  gone said is = inr (inl (calls_in said (others ++ more) deed old new is))

  kept : (said : List Said) (call : Served) → call.stream ≡ served.stream → call.call ≡ served.call → IsPlain said (others ++ call ∷ [] ++ more) deed old new → Fate served others more old.calls new.calls
  kept said call on same is = inr (inr (record { call = call; on = on; same = same; whole = calls_in said (others ++ call ∷ [] ++ more) deed old new is }))

  fate_polled : (b : Bool) → IsPolled b served others more deed old new → Fate served others more old.calls new.calls
  fate_polled true is = kept [] _ refl refl is
  fate_polled false is = gone _ is

  fate_next : (step : Result SubscribeStep Refusal) → IsNext step served others more deed old new → Fate served others more old.calls new.calls
  fate_next (Ok Poll) is = fate_polled (nat_lt served.polls most_polls) is
  fate_next (Ok (Begin plan)) is = absurd is
  fate_next (Err refusal) is = gone _ is

  fate_ending : (mode : ListMode) (polls : ℕ) → IsEnding mode polls served others more deed old new → Fate served others more old.calls new.calls
  fate_ending modes.Poll zero is = gone _ is
  fate_ending modes.Poll (suc polls) is = kept [] _ refl refl is
  fate_ending modes.Stream polls is = inl (calls_in [] old.calls deed old new is)
  fate_ending modes.Once polls is = inl (calls_in [] old.calls deed old new is)
  fate_ending modes.Other polls is = inl (calls_in [] old.calls deed old new is)

  pub fate : (what : Later) → IsHeardBy what served others more deed old new → Fate served others more old.calls new.calls
  fate (later.Message body) (inl is) = fate_next (subscribe_step (Some served.call.plan.mode) body) is
  fate (later.Message body) (inr is) = gone _ is
  fate (later.Fault refusal) is = gone _ is
  fate later.End is = fate_ending served.call.plan.mode served.polls is

pub on_there : (s : ℕ) (calls : List Served) (k : Served) (ks : List Served) → calls_on s calls ≡ k ∷ ks → (k.stream == s) ≡ true
on_there s [] k ks is = absurd cc
on_there s (c ∷ calls) k ks is = by_test (c.stream == s) refl is (on_there s calls k ks) where
  by_test : (b : Bool) → (c.stream == s) ≡ b → cond b (c ∷ calls_on s calls) (calls_on s calls) ≡ k ∷ ks → (calls_on s calls ≡ k ∷ ks → (k.stream == s) ≡ true) → (k.stream == s) ≡ true
  by_test true same is rest = let e : c ≡ k = cc in ap (λ (d : Served). d.stream == s) (sym e) ∙ same
  by_test false same is rest = rest is

module _ (schema : List SchemaNode) (plan : Plan) (streams : plan.mode ≡ modes.Stream) (s : ℕ) where
  abbrev octets_of : List SubReply → List Said
  octets_of messages = map Message (replies_octets schema plan messages)

  octets_both : (xs ys : List SubReply) → octets_of (xs ++ ys) ≡ octets_of xs ++ octets_of ys
  octets_both [] ys = refl
  octets_both (x ∷ xs) ys = ap (λ (l : List Said). Message (reply_octets schema plan x) ∷ l) (octets_both xs ys)

  -- ---- what is said from here on

  record Rest (messages : List SubReply) (said : List Said) (h : List Entry) : Type 0 where
    more : List SubReply
    stream : Option StreamView
    run : HaveSaid plan (messages ++ more) h stream
    end : List Said
    ends : (end ≡ []) ⊎ (end ≡ told (Err NoMemory))
    said_is : said ≡ octets_of more ++ end

  nothing_more : (messages : List SubReply) (end : List Said) (h : List Entry) (stream : Option StreamView) → (end ≡ []) ⊎ (end ≡ told (Err NoMemory)) → HaveSaid plan messages h stream → Rest messages end h
  nothing_more messages end h stream ends had = record {
    more = [];
    stream = stream;
    run = subst (λ (ms : List SubReply). HaveSaid plan ms h stream) (sym (append-nil messages)) had;
    end = end;
    ends = ends;
    said_is = refl;
  }

  said_so : (messages : List SubReply) (said other : List Said) (h : List Entry) → said ≡ other → Rest messages other h → Rest messages said h
  said_so messages said other h is rest = subst (λ (l : List Said). Rest messages l h) (sym is) rest

  first_said : (messages new : List SubReply) (said : List Said) (h : List Entry) → Rest (messages ++ new) said h → Rest messages (octets_of new ++ said) h
  first_said messages new said h rest = record {
    more = new ++ rest.more;
    stream = rest.stream;
    run = subst (λ (ms : List SubReply). HaveSaid plan ms h rest.stream) (append_assoc messages new rest.more) rest.run;
    end = rest.end;
    ends = rest.ends;
    said_is = ap (λ (l : List Said). octets_of new ++ l) rest.said_is ∙ sym (append_assoc (octets_of new) (octets_of rest.more) rest.end)
        ∙ ap (λ (l : List Said). l ++ rest.end) (sym (octets_both new rest.more));
  }

  later_seen : (messages : List SubReply) (stream : Option StreamView) (h last more : List Entry) → last ≡ h ++ more → HaveSaid plan messages h stream → HaveSaid plan messages last stream
  later_seen messages stream h last more is had =
      subst (λ (l : List Entry). HaveSaid plan messages l stream) (sym is) (calls_stay messages h more (record { plan = plan; stream = stream }) had)

  -- ---- one turn of the call

  abbrev Goes : Service → List Said → PortView → Type 0
  Goes next said last = (k : Served) (ms : List SubReply) → calls_on s next.calls ≡ k ∷ [] → k.call.plan ≡ plan → HaveSaid plan ms next.port.seen k.call.stream → Rest ms said last.seen

  module _ (old next : Service) (last : PortView) (c : Served) (after : CallView) (now : ℕ) (messages : List SubReply) (said : List Said) (on : (c.stream == s) ≡ true) (plan_is : c.call.plan ≡ plan)
      (had : HaveSaid plan messages old.port.seen c.call.stream) (goes : Goes next said last) (over : calls_on s next.calls ≡ [] → said ≡ []) where
    -- it was tried, and the call goes on as it was
    goes_on_as_it_was : (more : List Entry) → next.port.seen ≡ old.port.seen ++ more → after.plan ≡ plan → HaveSaid plan messages old.port.seen after.stream → calls_on s next.calls ≡ calls_on s (record c { call = after } ∷ [])
        → Rest messages said last.seen
    goes_on_as_it_was more seen same had left =
        goes (record c { call = after }) messages (left ∙ ap (λ (b : Bool). cond b (record c { call = after } ∷ []) []) on) same (later_seen messages after.stream old.port.seen next.port.seen more seen had)

    says : (view : View) (octets : List (List ℕ)) → (looks : LooksOnce old.port now (patterns_of c.call.plan.lines) (Ok view) next.port) → Answers schema c.call now (Ok view) (Ok octets) after
        → calls_on s next.calls ≡ calls_on s (record c { call = after } ∷ [])
        → Rest messages (told_all octets false ++ said) last.seen
    says view octets looks answers left =
        let seen : next.port.seen ≡ looks.turn.left = ap (λ (p : PortView). p.seen) looks.taken.new_is in
        let more = one_goes_on old.port next.port looks.turn (inr (Ok view, looks.taken)) in
        let new : List SubReply = messages_with c.call now view in
        let shown : view ≡ view_in c.call.plan (old.port.seen ++ more.0) = looks.answer.0 ∙ ap (λ (h : List Entry). view_in c.call.plan h) (sym seen ∙ more.1) in
        let at = calls_go_on messages old.port.seen more.0 c.call now (subst (λ (p : Plan). HaveSaid p messages old.port.seen c.call.stream) (sym plan_is) had) in
        let at_view : IsCallAt (messages ++ new) (old.port.seen ++ more.0) (call_after c.call now view) =
        subst (λ (v : View). IsCallAt (messages ++ messages_with c.call now v) (old.port.seen ++ more.0) (call_after c.call now v)) (sym shown) at in
        let at_after : IsCallAt (messages ++ new) next.port.seen after =
        subst (λ (h : List Entry). IsCallAt (messages ++ new) h after) (sym more.1) (subst (λ (k : CallView). IsCallAt (messages ++ new) (old.port.seen ++ more.0) k) (sym answers.1) at_view) in
        let same : after.plan ≡ plan = ap (λ (k : CallView). k.plan) answers.1 ∙ plan_is in
        let rest = goes (record c { call = after }) (messages ++ new) (left ∙ ap (λ (b : Bool). cond b (record c { call = after } ∷ []) []) on) same (subst (λ (p : Plan). HaveSaid p (messages ++ new) next.port.seen after.stream) same at_after) in
        said_so messages (told_all octets false ++ said) (octets_of new ++ said) last.seen
        (ap (λ (l : List Said). l ++ said) (append-nil (map Message octets) ∙ ap (λ (o : List (List ℕ)). map Message o) (answers.0 ∙ ap (λ (p : Plan). replies_octets schema p new) plan_is)))
        (first_said messages new said last.seen rest)

    -- the call ended for want of memory
    ends_starved : (more : List Entry) → last.seen ≡ old.port.seen ++ more → calls_on s next.calls ≡ [] → Rest messages (told (Err NoMemory) ++ said) last.seen
    ends_starved more seen none =
        said_so messages (told (Err NoMemory) ++ said) (told (Err NoMemory)) last.seen (ap (λ (l : List Said). told (Err NoMemory) ++ l) (over none))
        (nothing_more messages (told (Err NoMemory)) last.seen c.call.stream (inr refl) (later_seen messages c.call.stream old.port.seen last.seen more seen had))

    module _ (whole : List Entry) (all_seen : last.seen ≡ old.port.seen ++ whole) (more : List Entry) (next_seen : next.port.seen ≡ old.port.seen ++ more) where
      refused : (refusal answer : Refusal) → (looks : LooksOnce old.port now (patterns_of c.call.plan.lines) (Err refusal) next.port) → (answer ≡ refusal) × (after ≡ c.call)
          → calls_on s next.calls ≡ calls_on s (kept_streaming (Err refusal) c after)
          → Rest messages (said_streaming (Err refusal) ++ said) last.seen
      refused DiskFault answer looks is left = goes_on_as_it_was more next_seen (ap (λ (k : CallView). k.plan) is.1 ∙ plan_is) (subst (λ (k : CallView). HaveSaid plan messages old.port.seen k.stream) (sym is.1) had) left
      refused NoMemory answer looks is left = ends_starved whole all_seen left
      refused refusal answer looks is left = absurd looks.answer

      answered : (look : Result View Refusal) (result : Result (List (List ℕ)) Refusal) → (looks : LooksOnce old.port now (patterns_of c.call.plan.lines) look next.port) → Answers schema c.call now look result after
          → calls_on s next.calls ≡ calls_on s (kept_streaming result c after)
          → Rest messages (said_streaming result ++ said) last.seen
      answered (Ok view) (Ok octets) looks answers left = says view octets looks answers left
      answered (Ok view) (Err NoMemory) looks answers left = ends_starved whole all_seen left
      answered (Ok view) (Err refusal) looks answers left = absurd answers
      answered (Err refusal) (Ok octets) looks answers left = absurd answers
      answered (Err refusal) (Err answer) looks answers left =
          subst (λ (r : Refusal). Rest messages (said_streaming (Err r) ++ said) last.seen) (sym answers.0)
          (refused refusal answer looks answers (subst (λ (r : Refusal). calls_on s next.calls ≡ calls_on s (kept_streaming (Err r) c after)) answers.0 left))

  -- ---- any deed

  module _ (deed : Deed) (old next : Service) (last : PortView) (c : Served) (messages : List SubReply) (said : List Said) (mine : calls_on s old.calls ≡ c ∷ []) (plan_is : c.call.plan ≡ plan)
      (had : HaveSaid plan messages old.port.seen c.call.stream) (goes : Goes next said last) (over : calls_on s next.calls ≡ [] → said ≡ [])
      (whole : List Entry) (all_seen : last.seen ≡ old.port.seen ++ whole) (more : List Entry) (next_seen : next.port.seen ≡ old.port.seen ++ more) where
    on_its_stream : (c.stream == s) ≡ true
    on_its_stream = on_there s old.calls c [] mine

    -- the call goes on, or is served no more
    unchanged : (k : Served) → calls_on s next.calls ≡ k ∷ [] → k.call ≡ c.call → Rest messages said last.seen
    unchanged k one same =
        goes k messages one (ap (λ (call : CallView). call.plan) same ∙ plan_is)
        (later_seen messages k.call.stream old.port.seen next.port.seen more next_seen (subst (λ (call : CallView). HaveSaid plan messages old.port.seen call.stream) (sym same) had))

    served_no_more : calls_on s next.calls ≡ [] → Rest messages said last.seen
    served_no_more none =
        said_so messages said [] last.seen (over none) (nothing_more messages [] last.seen c.call.stream (inl refl) (later_seen messages c.call.stream old.port.seen last.seen whole all_seen had))

    same_calls : next.calls ≡ old.calls → Rest messages said last.seen
    same_calls same = unchanged c (ap (calls_on s) same ∙ mine) refl

    module _ (on : (deed.stream == s) ≡ true) where
      dropped : (others after : List Served) (found : Served) → old.calls ≡ others ++ found ∷ after → found.stream ≡ deed.stream → next.calls ≡ others ++ after → Rest messages said last.seen
      dropped others after found among at left =
          let it = is_it s deed old.calls others after c found among at on mine in
          served_no_more (ap (calls_on s) left ∙ on-append s others after ∙ ap (λ (l : List Served). l ++ calls_on s after) it.before ∙ it.behind)

      by_fate : (others after : List Served) (found : Served) → old.calls ≡ others ++ found ∷ after → found.stream ≡ deed.stream → Fate found others after old.calls next.calls → Rest messages said last.seen
      by_fate others after found among at (inl same) = same_calls same
      by_fate others after found among at (inr (inl left)) = dropped others after found among at left
      by_fate others after found among at (inr (inr k)) =
          let it = is_it s deed old.calls others after c found among at on mine in
          unchanged k.call (ap (calls_on s) k.whole ∙ left_there s others (k.call ∷ []) after it.before it.behind ∙ one_left s deed.stream k.call (k.on ∙ at) on)
          (k.same ∙ ap (λ (d : Served). d.call) it.same)

      answers : (asked : Asked) → IsAnswer schema asked deed old next → (IsFirstMessage (Answering asked) → (deed.stream == s) ≡ false) → Rest messages said last.seen
      answers (asks.Call method body) is first = same_calls is.calls_are
      answers (asks.Subscribe body) is first = absurd (false≢true (sym (first tt) ∙ on))
      answers (asks.Later what) (inl is) first = by_fate is.others is.later is.served is.among.whole is.among.on (fate is.served is.others is.later deed old next what is.next)
      answers (asks.Later what) (inr is) first = same_calls (calls_in [] old.calls deed old next is.plain)
      answers (asks.Http status) is first = same_calls (calls_in _ old.calls deed old next is)
      answers (asks.Refused refusal) is first = same_calls (calls_in _ old.calls deed old next is)

      turn_in : (found : Served) (others after : List Served) (mode : ListMode) → found.call.plan.mode ≡ mode → found ≡ c → calls_on s others ≡ [] → calls_on s after ≡ [] → IsTurnIn mode schema found others after deed old next
          → Rest messages (deed.said ++ said) last.seen
      turn_in found others after modes.Stream in_mode same before behind is =
          let t = is.turn in
          said_so messages (deed.said ++ said) (said_streaming is.result ++ said) last.seen (ap (λ (l : List Said). l ++ said) t.says)
          (answered old next last c is.after t.now messages said on_its_stream plan_is had goes over whole all_seen more next_seen t.turns.look is.result
          (subst (λ (d : Served). LooksOnce old.port t.now (patterns_of d.call.plan.lines) t.turns.look next.port) same t.turns.looks)
          (subst (λ (d : Served). Answers schema d.call t.now t.turns.look is.result is.after) same t.turns.answers)
          (ap (calls_on s) t.calls_are ∙ left_there s others (kept_streaming is.result found is.after) after before behind ∙ ap (λ (d : Served). calls_on s (kept_streaming is.result d is.after)) same))
      turn_in found others after modes.Poll in_mode same before behind is =
          let other : modes.Poll ≡ modes.Stream = sym in_mode ∙ ap (λ (d : Served). d.call.plan.mode) same ∙ ap (λ (p : Plan). p.mode) plan_is ∙ streams in absurd cc
      turn_in found others after modes.Once in_mode same before behind is = absurd is
      turn_in found others after modes.Other in_mode same before behind is = absurd is

      turns : IsCallTurn schema deed old next → Rest messages (deed.said ++ said) last.seen
      turns is =
          let it = is_it s deed old.calls is.others is.later c is.served is.among.whole is.among.on on mine in
          turn_in is.served is.others is.later is.served.call.plan.mode refl it.same it.before it.behind is.turn

    step : (b : Bool) (doing : Doing) → (deed.stream == s) ≡ b → deed.doing ≡ doing → IsDone schema doing deed old next → (IsFirstMessage deed.doing → (deed.stream == s) ≡ false)
        → Rest messages (if b && is_turn doing then deed.said ++ said else said) last.seen
    step false doing off at is first =
        unchanged c (elsewhere s deed old.calls next.calls (changes schema deed old next doing at is) off ∙ mine) refl
    step true (Answering asked) on at is first = answers on asked is (λ f. first (subst IsFirstMessage (sym at) f))
    step true (Handing body) on at is first = same_calls (calls_in [] old.calls deed old next is.plain)
    step true Turning on at is first = turns on is
    step true Dropping on at is first = dropped on is.others is.later is.served is.among.whole is.among.on (calls_in [] _ deed old next is.plain)

  live : (old : Service) (deeds : List Deed) (last : Service) (c : Served) (messages : List SubReply) → AreDone schema old deeds last → NoneBegins s deeds → calls_on s old.calls ≡ c ∷ [] → c.call.plan ≡ plan
      → HaveSaid plan messages old.port.seen c.call.stream → Rest messages (said_in_turns s deeds) last.port.seen
  live old [] last c messages done first mine plan_is had =
      nothing_more messages [] last.port.seen c.call.stream (inl refl) (subst (λ (h : List Entry). HaveSaid plan messages h c.call.stream) (sym (ap (λ (v : Service). v.port.seen) done)) had)
  live old (deed ∷ deeds) last c messages (next, one, rest) first mine plan_is had =
      let whole = turns_go_on old.port last.port (turns_in (deed ∷ deeds)) (turns_taken schema old last (deed ∷ deeds) (next, one, rest)) in
      let more = goes_on deed old.port next.port (moves schema deed old next deed.doing one) in
      step deed old next last.port c messages (said_in_turns s deeds) mine plan_is had (λ k ms there is. live next deeds last k ms rest first.1 there is) (over_says schema s next deeds last rest first.1)
      whole.0 whole.1 more.0 more.1 (deed.stream == s) deed.doing refl refl one first.0

-- ---- from its beginning on

module _ (schema : List SchemaNode) (plan : Plan) (deed : Deed) (asks_stream : AsksStream plan deed) where
  says_so : (h : List Entry) (said : List Said) → Rest schema plan asks_stream.streams deed.stream [] said h → SaysRun schema plan h said
  says_so h said rest = record { messages = rest.more; stream = rest.stream; run = rest.run; end = rest.end; ends = rest.ends; said_is = rest.said_is }

  not_served : (h : List Entry) (said : List Said) → said ≡ [] → SaysRun schema plan h said
  not_served h said none = record { messages = []; stream = None; run = refl; end = []; ends = inl refl; said_is = none }

  module _ (old next last : Service) (after : List Deed) (rest : AreDone schema next after last) (first : NoneBegins deed.stream after) (none : calls_on deed.stream old.calls ≡ []) where
    not_begun : next.calls ≡ old.calls → SaysRun schema plan last.port.seen (said_in_turns deed.stream after)
    not_begun same = not_served last.port.seen (said_in_turns deed.stream after) (over_says schema deed.stream next after last rest first (ap (calls_on deed.stream) same ∙ none))

    begun : IsPlain [] (others_than deed.stream old.calls ++ new_served deed.stream plan ∷ []) deed old next → SaysRun schema plan last.port.seen (said_in_turns deed.stream after)
    begun is =
        let on : (deed.stream == deed.stream) ≡ true = eq-eqb deed.stream deed.stream refl in
        let one : calls_on deed.stream next.calls ≡ new_served deed.stream plan ∷ [] =
        ap (calls_on deed.stream) (calls_in [] _ deed old next is) ∙ with_one deed.stream true (others_than deed.stream old.calls) [] (new_served deed.stream plan) on
        ∙ ap (λ (l : List Served). l ++ new_served deed.stream plan ∷ []) (none_of_others deed.stream old.calls) in
        says_so last.port.seen (said_in_turns deed.stream after) (live schema plan asks_stream.streams deed.stream next after last (new_served deed.stream plan) [] rest first one refl refl)

    answered_so : IsAnswer schema (asks.Subscribe asks_stream.body) deed old next → SaysRun schema plan last.port.seen (said_in_turns deed.stream after)
    answered_so (inr is) = not_begun (calls_in _ old.calls deed old next is)
    answered_so (inl is) =
        let step = subst (λ (r : Result SubscribeStep Refusal). IsFirst schema r deed old next) asks_stream.begins is in
        begun (subst (λ (m : ListMode). IsBegun schema plan m deed old next) asks_stream.streams step)

  pub from_there : (old : Service) (before after : List Deed) (last : Service) → AreDone schema old (before ++ deed ∷ after) last → NoneBegins deed.stream before → NoneBegins deed.stream after → calls_on deed.stream old.calls ≡ []
      → SaysRun schema plan last.port.seen (said_in_turns deed.stream after)
  from_there old [] after last (next, one, rest) first later none =
      answered_so old next last after rest later none (subst (λ (doing : Doing). IsDone schema doing deed old next) asks_stream.asked one)
  from_there old (d ∷ before) after last (next, one, rest) first later none =
      from_there next before after last rest first.1 later
      (over_stays deed.stream (d.stream == deed.stream) d old.calls next.calls refl (changes schema d old next d.doing refl one) first.0 none)
