-- Calls take their turns, one after the other.
use Rattle.std.proofs.Common.{◌≡◌, ◌⊎◌, inl, inr, ℕ, ◌+◌, ◌==◌, ◌≤◌, nat_lt, arith, List, [], ◌∷◌, ◌++◌, Bool, true, false, ◌&&◌, refl, sym, ap, ◌∙◌, subst, append-nil, append_assoc, Option, Some, None, Result, Ok, Err, if◌then◌else◌}
use Rattle.std.proofs.lemmas.Grind.{common_steps}
use Rattle.std.specs.Prelude.{IfSome, MatchResult}
use Rattle.std.specs.List.{AllByRecursion}
use Rattle.std.proofs.lemmas.Bool.{eq-eqb}
use Rattle.base_kinds.specs.declared.request.ListMode.{ListMode}
use Rattle.base_kinds.specs.declared.request.ListMode.TheVariants as modes
use Rattle.environment.specs.Output.{Output}
use Rattle.h2_events.specs.declared.event.RecvEvent.{RecvEvent}
use Rattle.h2_events.specs.declared.port.Ready.TheVariants.{Free, Busy, Gone}
use Rattle.h2_recv.specs.Receiving.{State}
use Rattle.h2_send.specs.Inputs.{Input}
use Rattle.h2_send.specs.Lines.{first_line}
use Rattle.h2_send.specs.Offers.{ready_on}
use Rattle.h2_send.specs.Orders.{line_after}
use Rattle.h2_send.specs.Port.{Progress, line_of}
use Rattle.book_port.specs.Ports.{PortView}
use Rattle.sub_plan.specs.declared.plan.Plan.{Plan}
use Rattle.grpc_requests.specs.declared.request.Request.{Request}
use Rattle.h2_events.specs.declared.said.Said.TheVariants.{Finish}
use Rattle.session_core.specs.declared.how.How.TheVariants as hows
use Rattle.session_core.specs.declared.reply.Reply.{Reply}
use Rattle.session_core.specs.declared.served.Served.{Served}
use Rattle.session_core.specs.declared.waiting.Waiting.{Waiting}
use Rattle.stream_workers.specs.Feeders.{is_fed}
use Rattle.session_core.specs.Deeds.{Deed, Turning, Dropping, Service, IsDeed, asked_in, handed_by}
use Rattle.session_core.specs.Rounds.{HadTurns, IsTimely, deeds_of, had_turns, is_turn, turns_on}
use Rattle.session_core.specs.Saying.{AreBehind}
use Rattle.session_core.specs.Serving.{Start, Standing, first_service, standing_of}
use Rattle.session_core.specs.inner.Feeders.{IsServedBeside, FeederState}
use Rattle.session_core.specs.inner.Places.{IsTurning, NotYet, HasEnded, HasRested, Stands, course_of, place_of}
use Rattle.session_core.specs.inner.Steps.{IsTurned, deed_with, list_of, said_in, service}
use Rattle.session_core.specs.inner.Words.{words}
use Rattle.session_core.proofs.Apart.{apart_all, none_apart, others_off}
use Rattle.session_core.proofs.Rounds.{all_more}
use Rattle.session_core.proofs.Behind.{free_says, none_waits_there}
use Rattle.session_core.proofs.Serving.{deed_served, turn_timely}
use Rattle.session_core.proofs.Words.{starved}

-- ---- a deed more

turns-append : (s : ℕ) (deeds : List Deed) (d : Deed) → turns_on s (deeds ++ d ∷ []) ≡ turns_on s deeds + turns_on s (d ∷ [])
turns-append s [] d = omega arith
turns-append s (e ∷ deeds) d = let rest = turns-append s deeds d in omega (arith, rest)

-- a deed that is no turn, or is on another stream
pub no_turn_there : (s : ℕ) (deeds : List Deed) (d : Deed) → (d.stream == s && is_turn d.doing) ≡ false → turns_on s (deeds ++ d ∷ []) ≡ turns_on s deeds
no_turn_there s deeds d none =
    let one : turns_on s (d ∷ []) ≡ 0 = ap (λ (b : Bool). (if b then 1 else 0) + 0) none in
    let both = turns-append s deeds d in omega (arith, one, both)

one_turn_there : (s : ℕ) (deeds : List Deed) (d : Deed) → (d.stream == s && is_turn d.doing) ≡ true → turns_on s (deeds ++ d ∷ []) ≡ turns_on s deeds + 1
one_turn_there s deeds d is =
    let one : turns_on s (d ∷ []) ≡ 1 = ap (λ (b : Bool). (if b then 1 else 0) + 0) is in
    let both = turns-append s deeds d in omega (arith, one, both)

and_false : (a b : Bool) → a ≡ false → (a && b) ≡ false
and_false true b is = absurd cc
and_false false b is = refl

pub and_not : (a b : Bool) → b ≡ false → (a && b) ≡ false
and_not true b is = is
and_not false b is = refl

lt_more : (n m : ℕ) → nat_lt 0 n ≡ true → n ≤ m → nat_lt 0 m ≡ true
lt_more n m some le = grind (arith, common_steps)

had_more : (mode : ListMode) (served : Served) (deeds : List Deed) (d : Deed) → had_turns mode served deeds ≡ true → had_turns mode served (deeds ++ d ∷ []) ≡ true
had_more modes.Stream served deeds d is =
    let both = turns-append served.stream deeds d in
    lt_more (turns_on served.stream deeds) (turns_on served.stream (deeds ++ d ∷ [])) is (omega (arith, both))
had_more modes.Poll served deeds d is = is
had_more modes.Once served deeds d is = is
had_more modes.Other served deeds d is = is

-- no Poll waits
pub no_poll : (served : Served) (deeds : List Deed) → served.call.plan.mode ≡ modes.Poll → served.polls ≡ 0 → had_turns served.call.plan.mode served deeds ≡ true
no_poll served deeds in_mode none = ap (λ (m : ListMode). had_turns m served deeds) in_mode ∙ ap (λ (n : ℕ). n == 0) none

-- the deed isn't a turn on the streams of these calls
abbrev IsOff : Deed → List Served → Type 0
IsOff d calls = AllByRecursion (λ (c : Served). (d.stream == c.stream && is_turn d.doing) ≡ false) calls

turns_more : (deeds : List Deed) (d : Deed) (old new : List Input) (calls : List Served) → IsOff d calls → ((others : List Waiting) → AreBehind old others → AreBehind new others)
    → AllByRecursion (HadTurns deeds old) calls → AllByRecursion (HadTurns (deeds ++ d ∷ []) new) calls
turns_more deeds d old new [] off keeps are = tt
turns_more deeds d old new (served ∷ calls) off keeps are =
    (record { had = one are.0.had; once = λ in_mode. subst (λ (n : ℕ). n ≤ 1) (sym (no_turn_there served.stream deeds d off.0)) (are.0.once in_mode) }, turns_more deeds d old new calls off.1 keeps are.1) where
      one : (had_turns served.call.plan.mode served deeds ≡ true) ⊎ (ready_on served.stream (line_after first_line old).streams ≡ Busy) → (had_turns served.call.plan.mode served (deeds ++ d ∷ []) ≡ true) ⊎ (ready_on served.stream (line_after first_line new).streams ≡ Busy)
      one (inl had) = inl (had_more served.call.plan.mode served deeds d had)
      one (inr busy) = inr (keeps (record { stream = served.stream; said = Finish None } ∷ []) (busy, tt)).0

not_yet_more : (deeds : List Deed) (d : Deed) (calls : List Served) → IsOff d calls → AllByRecursion (NotYet deeds) calls → AllByRecursion (NotYet (deeds ++ d ∷ [])) calls
not_yet_more deeds d [] off are = tt
not_yet_more deeds d (c ∷ calls) off are = (λ in_mode. no_turn_there c.stream deeds d off.0 ∙ are.0 in_mode, not_yet_more deeds d calls off.1 are.1)

no_turn_off : (d : Deed) (calls : List Served) → is_turn d.doing ≡ false → IsOff d calls
no_turn_off d [] none = tt
no_turn_off d (c ∷ calls) none = (and_not (d.stream == c.stream) (is_turn d.doing) none, no_turn_off d calls none)

streams_off : (d : Deed) (calls : List Served) → AllByRecursion (λ (c : Served). (d.stream == c.stream) ≡ false) calls → IsOff d calls
streams_off d [] off = tt
streams_off d (c ∷ calls) off = (and_false (d.stream == c.stream) (is_turn d.doing) off.0, streams_off d calls off.1)

none_yet : (deeds : List Deed) (calls : List Served) → ((s : ℕ) → turns_on s deeds ≡ 0) → AllByRecursion (NotYet deeds) calls
none_yet deeds [] none = tt
none_yet deeds (c ∷ calls) none = (λ in_mode. none c.stream, none_yet deeds calls none)

module _ (fed : List ℕ) (start : Start) (output : Output) (octets : List ℕ) (recv : State) (sending : Progress) (side : FeederState) (heard : List RecvEvent) where
  -- a deed that answers no request
  stands_more : (waiting : List Waiting) (at : Standing) (deed : Deed) (new : Service) (later : List ℕ) → deed.given ≡ sending.inputs → asked_in deed.stream deed.doing ≡ [] → handed_by deed.stream deed.doing ≡ []
      → IsDeed start.schema deed (service at.port at.calls) new → later ≡ at.readings ++ deed.readings
      → (is_turn deed.doing ≡ true → ready_on deed.stream (line_after first_line sending.inputs).streams ≡ Free) → AreBehind sending.inputs waiting
      → Stands fed start output octets (place_of recv sending side heard waiting [] at)
      → Stands fed start output octets (place_of recv sending side heard (waiting ++ words deed.stream deed.said) [] (standing_of new.port new.calls later (at.round ++ deed ∷ [])))
  stands_more waiting at deed new later given none kept is read free behind stands = record {
    moments = stands.moments;
    reader = stands.reader;
    recv_is = stands.recv_is;
    frames = stands.frames;
    writing = stands.writing;
    heard_is = stands.heard_is;
    served = subst (λ (asks : List Request). (sd : IsServedBeside fed start side (course_of stands.moments sending.inputs waiting (asks ++ []) at)) → (is_turn deed.doing ≡ true → is_fed fed deed.stream ≡ false → IsTimely (deeds_of sd.served.rounds ++ at.round) deed)
        → IsServedBeside fed start side (course_of stands.moments sending.inputs (waiting ++ words deed.stream deed.said) [] (standing_of new.port new.calls later (at.round ++ deed ∷ [])))) none
        (λ sd turns. deed_served fed start side stands.moments sending.inputs waiting [] at deed new later given is read kept sd turns) stands.served
        (λ turn own. turn_timely fed start stands.moments sending.inputs waiting at deed given (none_waits_there deed.stream sending.inputs waiting (free turn) behind) (free_says deed.stream sending.inputs (free turn)) stands.served.served own);
  }

  module _ (done later : List Served) (served : Served) (waiting : List Waiting) (port : PortView) (readings : List ℕ) (t : IsTurning fed start output octets done (served ∷ later) recv sending side heard waiting port readings) where
    -- the call has had its turns
    turns_had_so : HadTurns t.round sending.inputs served → IsTurning fed start output octets (done ++ served ∷ []) later recv sending side heard waiting port readings
    turns_had_so had = record {
      round = t.round;
      stands = subst (λ (calls : List Served). Stands fed start output octets (place_of recv sending side heard waiting [] (standing_of port calls readings t.round))) (sym (append_assoc done (served ∷ []) later)) t.stands;
      behind = t.behind;
      turned = all_more (HadTurns t.round sending.inputs) done served t.turned had;
      not_yet = t.not_yet.1;
    }

    none_so_far : served.call.plan.mode ≡ modes.Stream → turns_on served.stream t.round ≤ 1
    none_so_far in_mode = let none = t.not_yet.0 in_mode in omega (arith, none)

    pub turns_had : (had_turns served.call.plan.mode served t.round ≡ true) ⊎ (ready_on served.stream (line_after first_line sending.inputs).streams ≡ Busy) → IsTurning fed start output octets (done ++ served ∷ []) later recv sending side heard waiting port readings
    turns_had had = turns_had_so (record { had = had; once = none_so_far })

    pub is_busy : ready_on served.stream (line_of sending).streams ≡ Busy → IsTurning fed start output octets (done ++ served ∷ []) later recv sending side heard waiting port readings
    is_busy busy = turns_had (inr busy)

    -- it is over
    pub is_gone : ready_on served.stream (line_of sending).streams ≡ Gone → IsTurning fed start output octets (done ++ []) later recv sending side heard waiting port readings
    is_gone gone =
        let deed = deed_with served.stream Dropping sending.inputs [] None false [] in
        let stood = stands_more waiting (standing_of port (done ++ served ∷ later) readings t.round) deed (service port (done ++ later)) readings refl refl refl
        (record {
          served = served;
          others = done;
          later = later;
          among = record { whole = refl; on = refl };
          over = gone;
          plain = record { says = refl; unread = refl; unturned = refl; unfailed = refl; new_is = refl };
        }) (sym (append-nil readings)) (λ is. absurd cc) t.behind t.stands in
        subst (λ (front : List Served). IsTurning fed start output octets front later recv sending side heard waiting port readings) (sym (append-nil done)) (record {
          round = t.round ++ deed ∷ [];
          stands = subst (λ (ws : List Waiting). Stands fed start output octets (place_of recv sending side heard ws [] (standing_of port (done ++ later) readings (t.round ++ deed ∷ [])))) (append-nil waiting) stood;
          behind = t.behind;
          turned = turns_more t.round deed sending.inputs sending.inputs done (no_turn_off deed done refl) (λ others behind. behind) t.turned;
          not_yet = not_yet_more t.round deed later (no_turn_off deed later refl) t.not_yet.1;
        })

    -- it takes a turn
    module _ (reply : Reply) (left : Option Served) (next : PortView) (more : List ℕ) (free : ready_on served.stream (line_of sending).streams ≡ Free) (is : IsTurned start.schema served reply left port next readings more) where
      abbrev pub turn_deed : Deed
      turn_deed = deed_with served.stream Turning sending.inputs is.readings is.turn is.failed (said_in reply)

      pub has_turned : Stands fed start output octets (place_of recv sending side heard (waiting ++ words served.stream (said_in reply)) [] (standing_of next (done ++ list_of left ++ later) more (t.round ++ turn_deed ∷ [])))
      has_turned = stands_more waiting (standing_of port (done ++ served ∷ later) readings t.round) turn_deed (service next (done ++ list_of left ++ later)) more refl refl refl
          (is.deed done later sending.inputs free) is.clock (λ turn. free) t.behind t.stands

      -- what it says was said, as far as it could be
      module _ (last : State) (new : Progress) (later_side : FeederState) (rest : List Waiting) (keeps : (others : List Waiting) → AreBehind sending.inputs others → AreBehind new.inputs others) (behind : AreBehind new.inputs rest)
          (stands : Stands fed start output octets (place_of last new later_side heard rest [] (standing_of next (done ++ list_of left ++ later) more (t.round ++ turn_deed ∷ [])))) where
        -- no other call is on its stream
        off : AllByRecursion (λ (c : Served). (served.stream == c.stream) ≡ false) done × AllByRecursion (λ (c : Served). (served.stream == c.stream) ≡ false) later
        off = others_off done later served (apart_all start.schema (first_service start) _ _ t.stands.served.served.done none_apart)

        later_not_yet : AllByRecursion (NotYet (t.round ++ turn_deed ∷ [])) later
        later_not_yet = not_yet_more t.round turn_deed later (streams_off turn_deed later off.1) t.not_yet.1

        front_turned : AllByRecursion (HadTurns (t.round ++ turn_deed ∷ []) new.inputs) done
        front_turned = turns_more t.round turn_deed sending.inputs new.inputs done (streams_off turn_deed done off.0) keeps t.turned

        -- the call is served no more
        pub ends_so : left ≡ None → IsTurning fed start output octets (done ++ []) later last new later_side heard rest next more
        ends_so none = subst (λ (front : List Served). IsTurning fed start output octets front later last new later_side heard rest next more) (sym (append-nil done)) (record {
          round = t.round ++ turn_deed ∷ [];
          stands = subst (λ (calls : List Served). Stands fed start output octets (place_of last new later_side heard rest [] (standing_of next calls more (t.round ++ turn_deed ∷ []))))
              (ap (λ (o : Option Served). done ++ list_of o ++ later) none ∙ ap (λ (front : List Served). front ++ later) (append-nil done)) stands;
          behind = behind;
          turned = front_turned;
          not_yet = later_not_yet;
        })

        -- it is served on, and may have further turns
        pub goes_on_so : (now : Served) → left ≡ Some now → now.call.plan.mode ≡ modes.Poll → IsTurning fed start output octets done (now ∷ later) last new later_side heard rest next more
        goes_on_so now some polls = record {
          round = t.round ++ turn_deed ∷ [];
          stands = subst (λ (calls : List Served). Stands fed start output octets (place_of last new later_side heard rest [] (standing_of next calls more (t.round ++ turn_deed ∷ []))))
              (ap (λ (o : Option Served). done ++ list_of o ++ later) some ∙ append_assoc done (now ∷ []) later) stands;
          behind = behind;
          turned = front_turned;
          not_yet = (λ in_mode. let other : modes.Poll ≡ modes.Stream = sym polls ∙ in_mode in absurd cc, later_not_yet);
        }

        had_its_turn : (now : Served) → now.stream ≡ served.stream → served.call.plan.mode ≡ modes.Stream → now.call.plan.mode ≡ modes.Stream → HadTurns (t.round ++ turn_deed ∷ []) new.inputs now
        had_its_turn now on streams in_mode =
            let is : (served.stream == now.stream && true) ≡ true = ap (λ (b : Bool). b && true) (eq-eqb served.stream now.stream (sym on)) in
            let count : turns_on now.stream (t.round ++ turn_deed ∷ []) ≡ turns_on now.stream t.round + 1 = one_turn_there now.stream t.round turn_deed is in
            let none : turns_on now.stream t.round ≡ 0 = ap (λ (n : ℕ). turns_on n t.round) on ∙ t.not_yet.0 streams in
            let one : turns_on now.stream (t.round ++ turn_deed ∷ []) ≡ 1 = omega (arith, count, none) in
            record {
              had = inl (ap (λ (m : ListMode). had_turns m now (t.round ++ turn_deed ∷ [])) in_mode ∙ ap (nat_lt 0) one);
              once = λ mode. omega (arith, one);
            }

        -- a call of mode STREAM has had the one that it has
        pub one_turn : (now : Served) → left ≡ Some now → now.stream ≡ served.stream → served.call.plan.mode ≡ modes.Stream → now.call.plan.mode ≡ modes.Stream
            → IsTurning fed start output octets (done ++ now ∷ []) later last new later_side heard rest next more
        one_turn now some on streams in_mode = record {
          round = t.round ++ turn_deed ∷ [];
          stands = subst (λ (calls : List Served). Stands fed start output octets (place_of last new later_side heard rest [] (standing_of next calls more (t.round ++ turn_deed ∷ []))))
              (ap (λ (o : Option Served). done ++ list_of o ++ later) some) stands;
          behind = behind;
          turned = all_more (HadTurns (t.round ++ turn_deed ∷ []) new.inputs) done now front_turned (had_its_turn now on streams in_mode);
          not_yet = later_not_yet;
        }

        -- whatever is left of a call of mode STREAM
        pub left_so : served.call.plan.mode ≡ modes.Stream → IfSome left (λ now. (now.stream ≡ served.stream) × (now.call.plan ≡ served.call.plan))
            → IsTurning fed start output octets (done ++ list_of left) later last new later_side heard rest next more
        left_so in_mode same = by_case left refl same where
          by_case : (o : Option Served) → left ≡ o → IfSome o (λ now. (now.stream ≡ served.stream) × (now.call.plan ≡ served.call.plan)) → IsTurning fed start output octets (done ++ list_of left) later last new later_side heard rest next more
          by_case None is same = subst (λ (o : Option Served). IsTurning fed start output octets (done ++ list_of o) later last new later_side heard rest next more) (sym is) (ends_so is)
          by_case (Some now) is same = subst (λ (o : Option Served). IsTurning fed start output octets (done ++ list_of o) later last new later_side heard rest next more) (sym is)
              (one_turn now is same.0 in_mode (ap (λ (p : Plan). p.mode) same.1 ∙ in_mode))

  -- ---- all of them

  pub all_due : (waiting : List Waiting) (at : Standing) → ((s : ℕ) → turns_on s at.round ≡ 0) → AreBehind sending.inputs waiting → Stands fed start output octets (place_of recv sending side heard waiting [] at)
      → IsTurning fed start output octets [] at.calls recv sending side heard waiting at.port at.readings
  all_due waiting at none behind stands = record { round = at.round; stands = stands; behind = behind; turned = tt; not_yet = none_yet at.round at.calls none }

  pub all_had : (calls : List Served) (waiting : List Waiting) (port : PortView) (readings : List ℕ) → IsTurning fed start output octets calls [] recv sending side heard waiting port readings
      → HasRested fed start output octets recv sending side heard waiting port calls readings
  all_had calls waiting port readings t = record {
    round = t.round;
    rests = record {
      stands = subst (λ (cs : List Served). Stands fed start output octets (place_of recv sending side heard waiting [] (standing_of port cs readings t.round))) (append-nil calls) t.stands;
      rest = record { none_owed = refl; behind = t.behind; turned = t.turned };
    };
  }

  pub turning_starved : (done due : List Served) (waiting : List Waiting) (port : PortView) (readings : List ℕ) → IsTurning fed start output octets done due recv sending side heard waiting port readings
      → HasEnded hows.NoMemory fed start octets output sending side port readings
  turning_starved done due waiting port readings t = starved fed start output octets side recv sending sending heard waiting [] (standing_of port (done ++ due) readings t.round) (inl refl) t.stands

  pub none_behind : (none waiting : List Waiting) (at : Standing) → none ≡ [] → Stands fed start output octets (place_of recv sending side heard waiting [] at) → Stands fed start output octets (place_of recv sending side heard (none ++ waiting) [] at)
  none_behind none waiting at is stands = subst (λ (n : List Waiting). Stands fed start output octets (place_of recv sending side heard (n ++ waiting) [] at)) (sym is) stands

  pub rested_if : {T E : Type 0} (result : Result T E) (waits : T → List Waiting) (calls : T → List Served) (Q : E → Type 0) (port : PortView) (readings : List ℕ)
      → MatchResult result (λ kept. IsTurning fed start output octets (calls kept) [] recv sending side heard (waits kept) port readings) Q
      → MatchResult result (λ kept. HasRested fed start output octets recv sending side heard (waits kept) port (calls kept) readings) Q
  rested_if (Ok kept) waits calls Q port readings is = all_had (calls kept) (waits kept) port readings is
  rested_if (Err fault) waits calls Q port readings is = is

pub none_is_behind : (inputs : List Input) (none : List Waiting) → none ≡ [] → AreBehind inputs none
none_is_behind inputs none is = subst (λ (n : List Waiting). AreBehind inputs n) (sym is) tt
