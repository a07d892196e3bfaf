-- A wire of the session's own as its sending half.
use Rattle.std.proofs.Common.{◌≡◌, ◌≢◌, inl, inr, ℕ, List, [], ◌∷◌, Bool, true, false, refl, sym, ap, ◌∙◌, subst, append-nil, map, Result, Ok, Err}
use Rattle.std.specs.Prelude.{Some}
use Rattle.std.proofs.Math.Nat.{le_refl}
use Rattle.environment.specs.Output.{Output, Wrote, FailedWithin}
use Rattle.h2_frame.specs.ErrorCodes.{flow_control_error}
use Rattle.h2_windows.specs.Written.{octets_of}
use Rattle.h2_events.specs.declared.event.RecvEvent.{RecvEvent}
use Rattle.h2_events.specs.declared.port.Ready.{Ready}
use Rattle.h2_events.specs.declared.port.Ready.TheVariants.{Free, Busy, Gone}
use Rattle.h2_events.specs.declared.port.Took.{Took}
use Rattle.h2_events.specs.declared.port.Took.TheVariants as took
use Rattle.h2_events.specs.declared.said.Said.{Said}
use Rattle.h2_events.specs.declared.said.Said.TheVariants.{Status}
use Rattle.h2_send.specs.Accepting.{IsAccepted}
use Rattle.h2_send.specs.Acting.{acted, handled}
use Rattle.h2_send.specs.Conditions.{IsClosed, answer_of, readiness}
use Rattle.h2_send.specs.Farewells.{farewell}
use Rattle.h2_send.specs.Inputs.{Input, Event, Speech}
use Rattle.h2_send.specs.Lines.{Line, is_new_stream, overflows}
use Rattle.h2_send.specs.Offers.{IsStatus, has_begun, ready_on}
use Rattle.h2_send.specs.Port.{Progress, Takes, line_of}
use Rattle.h2_send.specs.Wires.{Does, IsFolded, WireView, finished, progress_of}
use Rattle.h2_send.specs.Wires as wires
use Rattle.h2_send.specs.declared.condition.Condition.{Condition}
use Rattle.h2_send.specs.declared.condition.Condition.TheVariants as condition
use Rattle.h2_send.specs.declared.fault.WireFaultOut.{WireFaultOut}
use Rattle.h2_send.specs.declared.fault.WireFaultOut.TheVariants as faults
use Rattle.h2_send.proofs.Closing.{open_line}
use Rattle.session_core.specs.inner.Sending.{Acts, Closes, DoesWhereOpen, Finds, Gives, Reads, Says, TellsDone, TellsFault, TellsTook}
use Rattle.session_core.proofs.Others.{free_accepted}

-- nobody else did anything
none_gave : (at : Progress) (inputs : List Input) → [] ≡ map Some inputs → Gives inputs at at
none_gave at [] is = refl
none_gave at (input ∷ inputs) is = absurd cc

found_so : (at : Progress) → Finds [] [] at at
found_so at = record { did = []; told = refl; gave = none_gave at }

not_closed : (state : Condition) → state ≡ condition.Open → IsClosed state → ⊥
not_closed state is closed = subst IsClosed is closed

module _ {S : Type 0} (seen : S → Output) where
  abbrev at : WireView S → Progress
  at w = progress_of seen w

  own_call : (old new : WireView S) (Does : Progress → Progress → Type 0) (Tells : Result (Unit {0}) WireFaultOut → Type 0) → (old.condition ≡ condition.Open → Does (at old) (at new))
      → (IsClosed old.condition → (at new ≡ at old) × Tells (answer_of old.condition)) → DoesWhereOpen [] [] (at old) (at new) Does Tells
  own_call old new Does Tells does tells = record { found = at old; finds = found_so (at old); does = does; tells = tells }

  -- the windows are those of the inputs
  line_is : (w : WireView S) → IsFolded w.condition w.line w.inputs → w.condition ≡ condition.Open → w.line ≡ line_of (at w)
  line_is w folded is_open = open_line w.condition w.line w.inputs is_open folded

  -- ---- how a stream stands

  pub reads : (stream : ℕ) (ready : Ready) (w : WireView S) → IsFolded w.condition w.line w.inputs → ready ≡ readiness w.condition stream w.line
      → DoesWhereOpen [] [] (at w) (at w) (Reads stream (Ok ready)) (TellsFault {T = Ready} (at w) (Ok ready))
  reads stream ready w folded is =
      own_call w w (Reads stream (Ok ready)) (TellsFault {T = Ready} (at w) (Ok ready))
      (λ is_open. (ap Ok (is ∙ ap (λ (l : Line). readiness w.condition stream l) (line_is w folded is_open)), refl))
      (λ is_closed. (refl, λ was_open. absurd (not_closed w.condition was_open is_closed)))

  -- ---- something is said

  module _ (old new : WireView S) (folded : IsFolded old.condition old.line old.inputs) where
    takes : (answer : Took) (input : Input) → old.line ≡ line_of (at old) → wires.Says seen input answer old new → Takes answer input (at old) (at new)
    takes took.Taken input is (wrote, same) =
        (subst (λ (l : Line). Wrote (octets_of (handled input l).frames) (seen old.sink) (seen new.sink)) is wrote, ap (λ (w : WireView S). w.inputs) same, ap (λ (w : WireView S). w.condition) same)
    takes took.WriteFault input is (failed, grows, state, port) =
        (subst (λ (l : Line). FailedWithin (octets_of (handled input l).frames) (seen old.sink) (seen new.sink)) is failed, grows, state)
    takes took.NoMemory input is (wants, same, grows, state, port) = (same, grows, state)
    takes took.Busy input is never = absurd never
    takes took.Gone input is never = absurd never

    said_so : (stream : ℕ) (said : Said) (answer : Took) → old.line ≡ line_of (at old) → IsAccepted (Speech stream said) (line_of (at old)) → wires.Says seen (Speech stream said) answer old new → Says stream said answer (at old) (at new)
    said_so stream said took.Taken is accepts says = (accepts, takes took.Taken (Speech stream said) is says)
    said_so stream said took.WriteFault is accepts says = (accepts, takes took.WriteFault (Speech stream said) is says)
    said_so stream said took.NoMemory is accepts says = let t = takes took.NoMemory (Speech stream said) is says in (t.0, t.2, (Speech stream said ∷ [], t.1, le_refl 1))
    said_so stream said took.Busy is accepts says = absurd says
    said_so stream said took.Gone is accepts says = absurd says

    -- it isn't accepted
    busy_so : (stream : ℕ) (said : Said) (answer : Took) → answer ≡ took.Busy → (IsAccepted (Speech stream said) (line_of (at old)) → ⊥) → new ≡ old → Says stream said answer (at old) (at new)
    busy_so stream said answer is never same = subst (λ (t : Took). Says stream said t (at old) (at new)) (sym is) (never, ap at same)

    gone_so : (stream : ℕ) (said : Said) (answer : Took) → answer ≡ took.Gone → (IsAccepted (Speech stream said) (line_of (at old)) → ⊥) → new ≡ old → Says stream said answer (at old) (at new)
    gone_so stream said answer is never same = subst (λ (t : Took). Says stream said t (at old) (at new)) (sym is) (never, ap at same)

    not_free : (stream : ℕ) (said : Said) (r : Ready) → ready_on stream (line_of (at old)).streams ≡ r → (r ≡ Free → ⊥) → IsAccepted (Speech stream said) (line_of (at old)) → ⊥
    not_free stream said r is other accepts = other (sym is ∙ free_accepted stream said (line_of (at old)) accepts)

    ready_is : (stream : ℕ) (r : Ready) → old.condition ≡ condition.Open → readiness old.condition stream old.line ≡ r → ready_on stream (line_of (at old)).streams ≡ r
    ready_is stream r is_open is =
        ap (λ (l : Line). ready_on stream l.streams) (sym (line_is old folded is_open))
        ∙ sym (ap (λ (k : Condition). readiness k stream old.line) is_open)
        ∙ is

    by_ready : (stream : ℕ) (said : Said) (answer : Took) (r : Ready) → readiness old.condition stream old.line ≡ r → old.condition ≡ condition.Open
        → (ready_on stream (line_of (at old)).streams ≡ Free → r ≡ Free → Says stream said answer (at old) (at new))
        → (r ≡ Busy → (answer ≡ took.Busy) × (new ≡ old)) → (r ≡ Gone → (answer ≡ took.Gone) × (new ≡ old))
        → Says stream said answer (at old) (at new)
    by_ready stream said answer Free is is_open says busy gone = says (ready_is stream Free is_open is) refl
    by_ready stream said answer Busy is is_open says busy gone =
        busy_so stream said answer (busy refl).0 (not_free stream said Busy (ready_is stream Busy is_open is) (λ e. absurd cc)) (busy refl).1
    by_ready stream said answer Gone is is_open says busy gone =
        gone_so stream said answer (gone refl).0 (not_free stream said Gone (ready_is stream Gone is_open is) (λ e. absurd cc)) (gone refl).1

    -- a wire that is closed says nothing
    closed_gone : (state : Condition) (stream : ℕ) → IsClosed state → readiness state stream old.line ≡ Gone
    closed_gone condition.New stream is = absurd is
    closed_gone condition.Open stream is = absurd is
    closed_gone condition.Finished stream is = refl
    closed_gone condition.WriteFault stream is = refl
    closed_gone condition.NoMemory stream is = refl

    tells_took : (stream : ℕ) (answer : Took) → (readiness old.condition stream old.line ≡ Gone → (answer ≡ took.Gone) × (new ≡ old)) → IsClosed old.condition
        → (at new ≡ at old) × TellsTook (at old) answer (answer_of old.condition)
    tells_took stream answer gone is_closed =
        (ap at (gone (closed_gone old.condition stream is_closed)).1, λ was_open. absurd (not_closed old.condition was_open is_closed))

    pub says_so : (stream : ℕ) (said : Said) (answer : Took) → (ready_on stream (line_of (at old)).streams ≡ Free → IsAccepted (Speech stream said) (line_of (at old)))
        → (readiness old.condition stream old.line ≡ Free → wires.Says seen (Speech stream said) answer old new)
        → (readiness old.condition stream old.line ≡ Busy → (answer ≡ took.Busy) × (new ≡ old))
        → (readiness old.condition stream old.line ≡ Gone → (answer ≡ took.Gone) × (new ≡ old))
        → DoesWhereOpen [] [] (at old) (at new) (Says stream said answer) (TellsTook (at old) answer)
    says_so stream said answer accepts says busy gone =
        own_call old new (Says stream said answer) (TellsTook (at old) answer)
        (λ is_open. by_ready stream said answer (readiness old.condition stream old.line) refl is_open (λ free is. said_so stream said answer (line_is old folded is_open) (accepts free) (says is)) busy gone)
        (tells_took stream answer gone)

    -- a status comes before all messages
    status_by : (stream status : ℕ) (answer : Took) (begun : Bool) → has_begun stream old.line.streams ≡ begun → old.line ≡ line_of (at old) → IsStatus status → ready_on stream (line_of (at old)).streams ≡ Free
        → (begun ≡ false → wires.Says seen (Speech stream (Status status)) answer old new) → (begun ≡ true → (answer ≡ took.Gone) × (new ≡ old))
        → Says stream (Status status) answer (at old) (at new)
    status_by stream status answer false is line fits free says gone =
        said_so stream (Status status) answer line (free, ap (λ (l : Line). has_begun stream l.streams) (sym line) ∙ is, fits) (says refl)
    status_by stream status answer true is line fits free says gone =
        gone_so stream (Status status) answer (gone refl).0 (λ accepts. absurd (not_so (sym accepts.1 ∙ ap (λ (l : Line). has_begun stream l.streams) (sym line) ∙ is))) (gone refl).1 where
          not_so : false ≡ true → ⊥
          not_so e = cc

    pub states_so : (stream status : ℕ) (answer : Took) → IsStatus status
        → (readiness old.condition stream old.line ≡ Free → has_begun stream old.line.streams ≡ false → wires.Says seen (Speech stream (Status status)) answer old new)
        → (readiness old.condition stream old.line ≡ Free → has_begun stream old.line.streams ≡ true → (answer ≡ took.Gone) × (new ≡ old))
        → (readiness old.condition stream old.line ≡ Busy → (answer ≡ took.Busy) × (new ≡ old))
        → (readiness old.condition stream old.line ≡ Gone → (answer ≡ took.Gone) × (new ≡ old))
        → DoesWhereOpen [] [] (at old) (at new) (Says stream (Status status) answer) (TellsTook (at old) answer)
    states_so stream status answer fits says begun busy gone =
        own_call old new (Says stream (Status status) answer) (TellsTook (at old) answer)
        (λ is_open. by_ready stream (Status status) answer (readiness old.condition stream old.line) refl is_open
        (λ free is. status_by stream status answer (has_begun stream old.line.streams) refl (line_is old folded is_open) fits free (says is) (begun is)) busy gone)
        (tells_took stream answer gone)

    -- ---- the end

    closes_by : (code : ℕ) (done : Result (Unit {0}) WireFaultOut) → old.line ≡ line_of (at old) → Does seen false condition.Finished [] (finished code old.line) done old new → Closes code done (at old) (at new)
    closes_by code (Ok done) is (wrote, same) =
        (subst (λ (l : Line). Wrote (octets_of (farewell code l)) (seen old.sink) (seen new.sink)) is wrote, ap (λ (w : WireView S). w.inputs) same ∙ append-nil old.inputs, ap (λ (w : WireView S). w.condition) same)
    closes_by code (Err faults.WriteFault) is (failed, grows, state, port) =
        (subst (λ (l : Line). FailedWithin (octets_of (farewell code l)) (seen old.sink) (seen new.sink)) is failed, grows ∙ append-nil old.inputs, state)
    closes_by code (Err faults.NoMemory) is does = absurd (not_so does.0) where
      not_so : false ≡ true → ⊥
      not_so e = cc
    closes_by code (Err faults.Overflow) is never = absurd never

    pub closes_so : (code : ℕ) (done : Result (Unit {0}) WireFaultOut) → (old.condition ≡ condition.Open → Does seen false condition.Finished [] (finished code old.line) done old new)
        → (IsClosed old.condition → (done ≡ answer_of old.condition) × (new ≡ old)) → DoesWhereOpen [] [] (at old) (at new) (Closes code done) (TellsDone done)
    closes_so code done ends told =
        own_call old new (Closes code done) (TellsDone done) (λ is_open. closes_by code done (line_is old folded is_open) (ends is_open))
        (λ is_closed. (ap at (told is_closed).1, (told is_closed).0))

  -- ---- an event

  not_open : (state : Condition) → IsClosed state → state ≢ condition.Open
  not_open state is_closed is = not_closed state is is_closed

  module _ (event : RecvEvent) (old new : WireView S) (folded : IsFolded old.condition old.line old.inputs) (done : Result (Unit {0}) WireFaultOut)
      (acts : old.condition ≡ condition.Open → overflows event old.line ≡ false → Does seen (is_new_stream event) condition.Open (Event event ∷ []) (acted event old.line) done old new)
      (over : old.condition ≡ condition.Open → overflows event old.line ≡ true → (done ≡ Err faults.Overflow) × (new ≡ old))
      (told : old.condition ≢ condition.Open → (done ≡ answer_of old.condition) × (new ≡ old)) where
    abbrev here : Line
    here = line_of (at old)

    acts_by : (other : Result (Unit {0}) WireFaultOut) → done ≡ other → (other ≡ Err faults.Overflow → ⊥) → old.condition ≡ condition.Open → (b : Bool) → overflows event old.line ≡ b
        → (overflows event old.line ≡ false) × Does seen (is_new_stream event) condition.Open (Event event ∷ []) (acted event old.line) other old new
    acts_by other is apart is_open false passes = (passes, subst (λ (r : Result (Unit {0}) WireFaultOut). Does seen (is_new_stream event) condition.Open (Event event ∷ []) (acted event old.line) r old new) is (acts is_open passes))
    acts_by other is apart is_open true passes = absurd (apart (sym is ∙ (over is_open passes).0))

    acts_in : (other : Result (Unit {0}) WireFaultOut) → old.line ≡ here → (overflows event old.line ≡ false) × Does seen (is_new_stream event) condition.Open (Event event ∷ []) (acted event old.line) other old new → Acts event other (at old) (at new)
    acts_in (Ok done) is (accepts, (wrote, same)) =
        (ap (overflows event) (sym is) ∙ accepts, (subst (λ (l : Line). Wrote (octets_of (acted event l).frames) (seen old.sink) (seen new.sink)) is wrote, ap (λ (w : WireView S). w.inputs) same, ap (λ (w : WireView S). w.condition) same))
    acts_in (Err faults.WriteFault) is (accepts, (failed, grows, state, port)) =
        inl (ap (overflows event) (sym is) ∙ accepts, (subst (λ (l : Line). FailedWithin (octets_of (acted event l).frames) (seen old.sink) (seen new.sink)) is failed, grows, state))
    acts_in (Err faults.NoMemory) is (accepts, (wants, same, grows, state, port)) = (same, state, (Event event ∷ [], grows, le_refl 1))
    acts_in (Err faults.Overflow) is (accepts, never) = absurd never

    -- it is acted on
    pub acts_so : (other : Result (Unit {0}) WireFaultOut) → done ≡ other → (other ≡ Err faults.Overflow → ⊥) → DoesWhereOpen [] [] (at old) (at new) (Acts event other) (TellsDone other)
    acts_so other is apart =
        own_call old new (Acts event other) (TellsDone other)
        (λ is_open. acts_in other (line_is old folded is_open) (acts_by other is apart is_open (overflows event old.line) refl))
        (λ is_closed. let t = told (not_open old.condition is_closed) in (ap at t.1, sym is ∙ t.0))

    -- it takes a window too far, and the connection ends for it
    passes_so : done ≡ Err faults.Overflow → old.condition ≡ condition.Open → (b : Bool) → overflows event old.line ≡ b → (overflows event old.line ≡ true) × (new ≡ old)
    passes_so is is_open true passes = (passes, (over is_open passes).1)
    passes_so is is_open false passes = absurd (subst (λ (r : Result (Unit {0}) WireFaultOut). Does seen (is_new_stream event) condition.Open (Event event ∷ []) (acted event old.line) r old new) is (acts is_open passes))

    no_overflow : (state : Condition) → Err faults.Overflow ≡ answer_of state → ⊥
    no_overflow condition.New e = cc
    no_overflow condition.Open e = cc
    no_overflow condition.Finished e = cc
    no_overflow condition.WriteFault e = cc
    no_overflow condition.NoMemory e = cc

    module _ (last : WireView S) (ending : Result (Unit {0}) WireFaultOut) (is : done ≡ Err faults.Overflow)
        (ends : new.condition ≡ condition.Open → Does seen false condition.Finished [] (finished flow_control_error new.line) ending new last) where
      ends_for : (other : Result (Unit {0}) WireFaultOut) → (Closes flow_control_error ending (at old) (at last) → overflows event here ≡ true → Acts event other (at old) (at last))
          → DoesWhereOpen [] [] (at old) (at last) (Acts event other) (TellsDone other)
      ends_for other so =
          own_call old last (Acts event other) (TellsDone other)
          (λ is_open.
          let p = passes_so is is_open (overflows event old.line) refl in
          let line = line_is old folded is_open in
          let e = subst (λ (w : WireView S). w.condition ≡ condition.Open → Does seen false condition.Finished [] (finished flow_control_error w.line) ending w last) p.1 ends in
          so (closes_by old last folded flow_control_error ending line (e is_open)) (ap (overflows event) (sym line) ∙ p.0))
          (λ is_closed. absurd (no_overflow old.condition (sym is ∙ (told (not_open old.condition is_closed)).0)))

      pub overflows_so : ending ≡ Ok tt → DoesWhereOpen [] [] (at old) (at last) (Acts event (Err faults.Overflow)) (TellsDone (Err faults.Overflow))
      overflows_so well = ends_for (Err faults.Overflow) (λ closes passes. (passes, subst (λ (r : Result (Unit {0}) WireFaultOut). Closes flow_control_error r (at old) (at last)) well closes))

      overflows_badly_by : (fault : WireFaultOut) → Closes flow_control_error (Err fault) (at old) (at last) → overflows event here ≡ true → Acts event (Err fault) (at old) (at last)
      overflows_badly_by faults.WriteFault closes passes = inr (passes, closes)
      overflows_badly_by faults.NoMemory closes passes = absurd closes
      overflows_badly_by faults.Overflow closes passes = absurd closes

      pub overflows_badly : (fault : WireFaultOut) → ending ≡ Err fault → DoesWhereOpen [] [] (at old) (at last) (Acts event (Err fault)) (TellsDone (Err fault))
      overflows_badly fault badly = ends_for (Err fault) (λ closes passes. overflows_badly_by fault (subst (λ (r : Result (Unit {0}) WireFaultOut). Closes flow_control_error r (at old) (at last)) badly closes) passes)
