-- What a call on an open wire leaves, as its record.
use Rattle.std.proofs.Common.{◌≡◌, inl, inr, ℕ, Bool, true, false, [], ◌∷◌, Result, Ok, Err, refl, sym, ap, ◌∙◌, subst, arith, append-nil}
use Rattle.environment.specs.Output.{Output, Wrote, FailedWithin}
use Rattle.h2_windows.specs.Written.{octets_of}
use Rattle.h2_events.specs.declared.event.RecvEvent.{RecvEvent}
use Rattle.h2_events.specs.declared.port.Took.{Took}
use Rattle.h2_events.specs.declared.port.Took.TheVariants as took
use Rattle.h2_events.specs.declared.port.Ready.{Ready}
use Rattle.h2_events.specs.declared.port.Ready.TheVariants as ready
use Rattle.h2_events.specs.declared.said.Said.TheVariants.{Status}
use Rattle.h2_send.specs.Accepting.{IsAccepted}
use Rattle.h2_send.specs.Acting.{handled, acted}
use Rattle.h2_send.specs.Conditions.{condition_after, readiness}
use Rattle.h2_send.specs.Farewells.{farewell}
use Rattle.h2_send.specs.Inputs.{Input, Event, Speech, input_of}
use Rattle.h2_send.specs.Lines.{Line, first_line, is_new_stream, overflows}
use Rattle.h2_send.specs.Offers.{IsStatus, has_begun}
use Rattle.h2_send.specs.Orders.{line_after}
use Rattle.h2_send.specs.Port.{Progress, ready_in}
use Rattle.h2_send.specs.Wires.{WireView, Does, Says, finished, progress_of}
use Rattle.h2_send.specs.declared.given.Given.{Given}
use Rattle.h2_send.specs.declared.condition.Condition.TheVariants as condition
use Rattle.h2_send.specs.declared.fault.WireFaultOut.{WireFaultOut}
use Rattle.h2_send.specs.declared.fault.WireFaultOut.TheVariants as fault
use Rattle.h2_send.proofs.Holding.{ready_free}
use Rattle.shared_wire.specs.Records.{Gave, Refused, Ended, WireRecord, GoesOut, EndsOut, Leaves, IsRefused, TakesNoStatus, TookBy, AnswersEvent, AnswersStatus, AnswersEnd}
use Rattle.shared_wire.specs.inner.Logging.{deed_of, left_by, acted_so, stated_so, condition_by}
use Rattle.shared_wire.specs.declared.log.Noted.{Noted}
use Rattle.shared_wire.specs.declared.log.Noted.TheVariants as noted

-- what is noted of a call, and how it left the wire
abbrev pub noted_record : {S : Type 0} → (S → Output) → ℕ → Noted → WireView S → WireRecord
noted_record seen author deed v = record { author = author; deed = deed_of deed; left = left_by deed (progress_of seen v) }

module _ {S : Type 0} (seen : S → Output) (author : ℕ) (w v : WireView S) (line : w.line ≡ line_after first_line w.inputs) where
  abbrev at : Progress
  at = progress_of seen w

  abbrev left : Progress
  left = progress_of seen v

  -- ---- what is given

  does_gives : (wants : Bool) (input : Input) (result : Result (Unit {0}) WireFaultOut) → IsAccepted input w.line → Does seen wants condition.Open (input ∷ []) (handled input w.line) result w v → Leaves (Gave input) at left × (v.condition ≡ condition_after condition.Open result)
  does_gives wants input (Ok tt) accepted (wrote, same) =
      let is : v.condition ≡ condition.Open = ap (λ (x : WireView S). x.condition) same in (
        (
          subst (IsAccepted input) line accepted,
          ap (λ (x : WireView S). x.inputs) same,
          subst (λ s. GoesOut s input at left.output) (sym is) (subst (λ l. Wrote (octets_of (handled input l).frames) at.output left.output) line wrote),
        ),
        is,
      )
  does_gives wants input (Err fault.WriteFault) accepted (failed, grows, is, port) = (
    (
      subst (IsAccepted input) line accepted,
      grows,
      subst (λ s. GoesOut s input at left.output) (sym is) (subst (λ l. FailedWithin (octets_of (handled input l).frames) at.output left.output) line failed),
    ),
    is,
  )
  does_gives wants input (Err fault.NoMemory) accepted (may, same, grows, is, port) = (
    (subst (IsAccepted input) line accepted, grows, subst (λ s. GoesOut s input at left.output) (sym is) same),
    is,
  )
  does_gives wants input (Err fault.Overflow) accepted never = absurd never

  -- ---- an event

  acts_open : (event : RecvEvent) (given : Given) (result : Result (Unit {0}) WireFaultOut) (wants : Bool) → wants ≡ is_new_stream event → input_of given ≡ Event event → overflows event w.line ≡ false → Does seen wants condition.Open (Event event ∷ []) (acted event w.line) result w v → Leaves (deed_of (acted_so given result)) at (left_by (acted_so given result) left) × (v.condition ≡ condition_after condition.Open result) × AnswersEvent event result (noted_record seen author (acted_so given result) v)
  acts_open event given (Ok tt) wants new is fits does =
      let g = does_gives wants (Event event) (Ok tt) fits does in
      (subst (λ i. Leaves (Gave i) at left) (sym is) g.0, g.1, (ap Gave is, g.1))
  acts_open event given (Err fault.WriteFault) wants new is fits does =
      let g = does_gives wants (Event event) (Err fault.WriteFault) fits does in
      (subst (λ i. Leaves (Gave i) at left) (sym is) g.0, g.1, (ap Gave is, g.1))
  acts_open event given (Err fault.NoMemory) wants new is fits does =
      let g = does_gives wants (Event event) (Err fault.NoMemory) fits does in
      (subst (λ i. Leaves (Gave i) at left) (sym is) g.0, g.1, (ap Gave is, g.1, sym new ∙ does.0))
  acts_open event given (Err fault.Overflow) wants new is fits never = absurd never

  acts_over : (event : RecvEvent) (given : Given) (result : Result (Unit {0}) WireFaultOut) → input_of given ≡ Event event → w.condition ≡ condition.Open → overflows event w.line ≡ true → result ≡ Err fault.Overflow → v ≡ w → Leaves (deed_of (acted_so given result)) at (left_by (acted_so given result) left) × (v.condition ≡ condition_after condition.Open result) × AnswersEvent event result (noted_record seen author (acted_so given result) v)
  acts_over event given result is is_open over answer same =
      subst (λ r. Leaves (deed_of (acted_so given r)) at (left_by (acted_so given r) left) × (v.condition ≡ condition_after condition.Open r) × AnswersEvent event r (noted_record seen author (acted_so given r) v)) (sym answer)
      (subst (λ i. Leaves (Refused i) at left) (sym is) (subst (λ l. overflows event l ≡ true) line over, ap (λ x. progress_of seen x) same), ap (λ (x : WireView S). x.condition) same ∙ is_open, ap Refused is)

  acts_by : (event : RecvEvent) (given : Given) (result : Result (Unit {0}) WireFaultOut) (wants : Bool) (b : Bool) → wants ≡ is_new_stream event → overflows event w.line ≡ b → input_of given ≡ Event event → w.condition ≡ condition.Open → (overflows event w.line ≡ false → Does seen wants condition.Open (Event event ∷ []) (acted event w.line) result w v) → (overflows event w.line ≡ true → (result ≡ Err fault.Overflow) × (v ≡ w)) → Leaves (deed_of (acted_so given result)) at (left_by (acted_so given result) left) × (v.condition ≡ condition_after condition.Open result) × AnswersEvent event result (noted_record seen author (acted_so given result) v)
  acts_by event given result wants false new b is is_open does over = acts_open event given result wants new is b (does b)
  acts_by event given result wants true new b is is_open does over = acts_over event given result is is_open b (over b).0 (over b).1

  pub acts : (event : RecvEvent) (given : Given) (result : Result (Unit {0}) WireFaultOut) (wants : Bool) → wants ≡ is_new_stream event → input_of given ≡ Event event → w.condition ≡ condition.Open → (overflows event w.line ≡ false → Does seen wants condition.Open (Event event ∷ []) (acted event w.line) result w v) → (overflows event w.line ≡ true → (result ≡ Err fault.Overflow) × (v ≡ w)) → Leaves (deed_of (acted_so given result)) at (left_by (acted_so given result) left) × (v.condition ≡ condition_after condition.Open result) × AnswersEvent event result (noted_record seen author (acted_so given result) v)
  acts event given result wants new is is_open does over = acts_by event given result wants (overflows event w.line) new refl is is_open does over

  -- ---- what is said

  says_gives : (input : Input) (answer : Took) → IsAccepted input w.line → Says seen input answer w v → Leaves (Gave input) at left × (v.condition ≡ condition_by answer) × TookBy answer v.condition
  says_gives input took.Taken accepted does = let g = does_gives true input (Ok tt) accepted does in (g.0, g.1, g.1)
  says_gives input took.WriteFault accepted does = let g = does_gives true input (Err fault.WriteFault) accepted does in (g.0, g.1, g.1)
  says_gives input took.NoMemory accepted does = let g = does_gives true input (Err fault.NoMemory) accepted does in (g.0, g.1, g.1)
  says_gives input took.Busy accepted never = absurd never
  says_gives input took.Gone accepted never = absurd never

  pub says : (input : Input) (given : Given) (answer : Took) → input_of given ≡ input → IsAccepted input w.line → Says seen input answer w v → Leaves (Gave (input_of given)) at left × (v.condition ≡ condition_by answer) × TookBy answer v.condition
  says input given answer is accepted does = let g = says_gives input answer accepted does in (subst (λ i. Leaves (Gave i) at left) (sym is) g.0, g.1, g.2)

  -- ---- a status

  abbrev States : ℕ → ℕ → Given → Took → Type 0
  States stream status given answer =
      Leaves (deed_of (stated_so given answer)) at (left_by (stated_so given answer) left)
      × (v.condition ≡ condition_by answer)
      × AnswersStatus stream status at answer (noted_record seen author (stated_so given answer) v)

  states_given : (stream status : ℕ) (given : Given) (answer : Took) → input_of given ≡ Speech stream (Status status) → IsAccepted (Speech stream (Status status)) w.line → Says seen (Speech stream (Status status)) answer w v → States stream status given answer
  states_given stream status given took.Taken is accepted does = let g = says (Speech stream (Status status)) given took.Taken is accepted does in (g.0, g.1, (ap Gave is, g.2))
  states_given stream status given took.WriteFault is accepted does = let g = says (Speech stream (Status status)) given took.WriteFault is accepted does in (g.0, g.1, (ap Gave is, g.2))
  states_given stream status given took.NoMemory is accepted does = let g = says (Speech stream (Status status)) given took.NoMemory is accepted does in (g.0, g.1, (ap Gave is, g.2))
  states_given stream status given took.Busy is accepted never = absurd never
  states_given stream status given took.Gone is accepted never = absurd never

  refused : (stream status : ℕ) (given : Given) → input_of given ≡ Speech stream (Status status) → w.condition ≡ condition.Open → v ≡ w → IsRefused (Speech stream (Status status)) at → Leaves (Refused (input_of given)) at left × (v.condition ≡ condition.Open) × (Refused (input_of given) ≡ Refused (Speech stream (Status status)))
  refused stream status given is is_open same why = (subst (λ i. Leaves (Refused i) at left) (sym is) (why, ap (λ x. progress_of seen x) same), ap (λ (x : WireView S). x.condition) same ∙ is_open, ap Refused is)

  refused_gone : (stream status : ℕ) (given : Given) (answer : Took) → input_of given ≡ Speech stream (Status status) → w.condition ≡ condition.Open → answer ≡ took.Gone → v ≡ w → TakesNoStatus stream at → States stream status given answer
  refused_gone stream status given answer is is_open gone same why = let r = refused stream status given is is_open same (inr why) in subst (States stream status given) (sym gone) (r.0, r.1, (r.2, why))

  refused_busy : (stream status : ℕ) (given : Given) (answer : Took) → input_of given ≡ Speech stream (Status status) → w.condition ≡ condition.Open → answer ≡ took.Busy → v ≡ w → ready_in stream at ≡ ready.Busy → States stream status given answer
  refused_busy stream status given answer is is_open busy same why = let r = refused stream status given is is_open same (inl why) in subst (States stream status given) (sym busy) (r.0, r.1, (r.2, why))

  ready_here : (stream : ℕ) (d : Ready) → readiness w.condition stream w.line ≡ d → ready_in stream at ≡ d
  ready_here stream d is = ap (λ l. readiness w.condition stream l) (sym line) ∙ is

  states_begun : (stream status : ℕ) (given : Given) (answer : Took) (b : Bool) → has_begun stream w.line.streams ≡ b → input_of given ≡ Speech stream (Status status) → IsStatus status → w.condition ≡ condition.Open
      → readiness w.condition stream w.line ≡ ready.Free
      → (has_begun stream w.line.streams ≡ false → Says seen (Speech stream (Status status)) answer w v)
      → (has_begun stream w.line.streams ≡ true → (answer ≡ took.Gone) × (v ≡ w)) → States stream status given answer
  states_begun stream status given answer false b is fits is_open free says_so begun = states_given stream status given answer is (ready_free w.condition stream w.line free, b, fits) (says_so b)
  states_begun stream status given answer true b is fits is_open free says_so begun = refused_gone stream status given answer is is_open (begun b).0 (begun b).1 (inr (ready_here stream ready.Free free, ap (λ (l : Line). has_begun stream l.streams) (sym line) ∙ b))

  states_ready : (stream status : ℕ) (given : Given) (answer : Took) (d : Ready) → readiness w.condition stream w.line ≡ d → input_of given ≡ Speech stream (Status status) → IsStatus status → w.condition ≡ condition.Open
      → (readiness w.condition stream w.line ≡ ready.Free → has_begun stream w.line.streams ≡ false → Says seen (Speech stream (Status status)) answer w v)
      → (readiness w.condition stream w.line ≡ ready.Free → has_begun stream w.line.streams ≡ true → (answer ≡ took.Gone) × (v ≡ w))
      → (readiness w.condition stream w.line ≡ ready.Busy → (answer ≡ took.Busy) × (v ≡ w))
      → (readiness w.condition stream w.line ≡ ready.Gone → (answer ≡ took.Gone) × (v ≡ w)) → States stream status given answer
  states_ready stream status given answer ready.Free d is fits is_open says_so begun busy gone = states_begun stream status given answer (has_begun stream w.line.streams) refl is fits is_open d (says_so d) (begun d)
  states_ready stream status given answer ready.Busy d is fits is_open says_so begun busy gone = refused_busy stream status given answer is is_open (busy d).0 (busy d).1 (ready_here stream ready.Busy d)
  states_ready stream status given answer ready.Gone d is fits is_open says_so begun busy gone = refused_gone stream status given answer is is_open (gone d).0 (gone d).1 (inl (ready_here stream ready.Gone d))

  pub states : (stream status : ℕ) (given : Given) (answer : Took) → input_of given ≡ Speech stream (Status status) → IsStatus status → w.condition ≡ condition.Open
      → (readiness w.condition stream w.line ≡ ready.Free → has_begun stream w.line.streams ≡ false → Says seen (Speech stream (Status status)) answer w v)
      → (readiness w.condition stream w.line ≡ ready.Free → has_begun stream w.line.streams ≡ true → (answer ≡ took.Gone) × (v ≡ w))
      → (readiness w.condition stream w.line ≡ ready.Busy → (answer ≡ took.Busy) × (v ≡ w))
      → (readiness w.condition stream w.line ≡ ready.Gone → (answer ≡ took.Gone) × (v ≡ w)) → States stream status given answer
  states stream status given answer is fits is_open says_so begun busy gone = states_ready stream status given answer (readiness w.condition stream w.line) refl is fits is_open says_so begun busy gone

  -- ---- the end

  pub ends : (code : ℕ) (result : Result (Unit {0}) WireFaultOut) → Does seen false condition.Finished [] (finished code w.line) result w v → Leaves (Ended code) at left × (v.condition ≡ condition_after condition.Finished result) × AnswersEnd code result (noted_record seen author (noted.Ended code) v)
  ends code (Ok tt) (wrote, same) =
      let is : v.condition ≡ condition.Finished = ap (λ (x : WireView S). x.condition) same in (
        (
          ap (λ (x : WireView S). x.inputs) same ∙ append-nil w.inputs,
          subst (λ s. EndsOut s code at left.output) (sym is) (subst (λ l. Wrote (octets_of (farewell code l)) at.output left.output) line wrote),
        ),
        is,
        (refl, is),
      )
  ends code (Err fault.WriteFault) (failed, grows, is, port) = (
    (
      grows ∙ append-nil w.inputs,
      subst (λ s. EndsOut s code at left.output) (sym is) (subst (λ l. FailedWithin (octets_of (farewell code l)) at.output left.output) line failed),
    ),
    is,
    (refl, is),
  )
  ends code (Err fault.NoMemory) (never, same, grows, is, port) = absurd cc
  ends code (Err fault.Overflow) never = absurd never

  -- without a GOAWAY nothing is written
  pub ends_silently : (result : Result (Unit {0}) WireFaultOut) → Does seen false condition.Finished [] (finished 0 w.line) result w v → left ≡ record at { condition = condition.Finished }
  ends_silently (Ok tt) (wrote, same) = λ i. record {
    inputs = (ap (λ (x : WireView S). x.inputs) same ∙ append-nil w.inputs) i;
    condition = (same i).condition;
    output = (wrote ∙ ap (λ t. let o : Output = record { taken = t; faults = (seen w.sink).faults } in o) (append-nil (seen w.sink).taken)) i;
  }
  ends_silently (Err fault.WriteFault) ((n, less, last), grows, is, port) = absurd (omega (arith, less))
  ends_silently (Err fault.NoMemory) (never, same, grows, is, port) = absurd cc
  ends_silently (Err fault.Overflow) never = absurd never
