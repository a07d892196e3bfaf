-- What goes out of a wire by a call.
use Rattle.std.proofs.Common.{inl, inr, ◌≡◌, ℕ, zero, suc, Bool, false, List, [], ◌∷◌, ◌++◌, Result, Ok, Err, refl, sym, ap, ◌∙◌, subst, arith, append-nil}
use Rattle.environment.specs.Output.{Output, Wrote, FailedWithin}
use Rattle.environment.specs.declared.streams.Failed.{Failed}
use Rattle.h2_frame.specs.Frames.{Frame}
use Rattle.h2_windows.specs.Control.{greeting}
use Rattle.h2_windows.specs.Written.{octets_of, Writes}
use Rattle.h2_send.specs.Farewells.{farewell}
use Rattle.h2_send.specs.Inputs.{Input}
use Rattle.h2_send.specs.Lines.{Line, first_line}
use Rattle.h2_send.specs.Acting.{handled}
use Rattle.h2_send.specs.Orders.{line_after}
use Rattle.h2_send.specs.Conditions.{answered, condition_after, is_closed}
use Rattle.h2_send.specs.Outputs.{HasGoneOut, frames_of}
use Rattle.h2_send.specs.Wires.{Responds, IsFolded, behind_greeting, last_frames}
use Rattle.h2_send.specs.declared.condition.Condition.{Condition}
use Rattle.h2_send.specs.declared.condition.Condition.TheVariants as condition
use Rattle.h2_send.specs.declared.fault.WireFaultOut.{WireFaultOut}
use Rattle.h2_send.specs.declared.fault.WireFaultOut.TheVariants as fault
use Rattle.h2_send.proofs.Closing.{open_line}
use Rattle.h2_send.proofs.Orders.{output_grows, output_fails, output_ends, output_breaks}

-- without a GOAWAY
no_farewell : (frames : List Frame) (start new : Output) → FailedWithin (octets_of frames) start new → FailedWithin (octets_of (frames ++ [])) start new
no_farewell frames start new failed = subst (λ (fs : List Frame). FailedWithin (octets_of fs) start new) (sym (append-nil frames)) failed

-- ---- an input

responded : (wants : Bool) (input : Input) (inputs : List Input) (now : Line) (result : Result (Unit {0}) WireFaultOut) (start old new : Output) → Responds wants (handled input (line_after first_line inputs)) result now old new → HasGoneOut condition.Open inputs start old → HasGoneOut (condition_after condition.Open result) (inputs ++ input ∷ []) start new
responded wants input inputs now (Ok tt) start old new (wrote, line) before = output_grows inputs input start old new before wrote
responded wants input inputs now (Err fault.WriteFault) start old new failed before = (0, no_farewell (frames_of (inputs ++ input ∷ [])) start new (output_fails inputs input start old new before failed))
responded wants input inputs now (Err fault.NoMemory) start old new (may, same) before = (inputs, input, refl, subst (λ (o : Output). Wrote (octets_of (frames_of inputs)) start o) (sym same) before)
responded wants input inputs now (Err fault.Overflow) start old new never before = absurd never

pub given_out : (wants : Bool) (input : Input) (was next : Condition) (before now : Line) (inputs after : List Input) (result : Result (Unit {0}) WireFaultOut) (start old new : Output) → was ≡ condition.Open → IsFolded was before inputs → Responds wants (handled input before) result now old new → next ≡ condition_after condition.Open result → after ≡ inputs ++ input ∷ [] → HasGoneOut was inputs start old → HasGoneOut next after start new
given_out wants input was next before now inputs after result start old new is folded responds leaves grows has =
    let line : before ≡ line_after first_line inputs = open_line was before inputs is folded in
    subst (λ s. HasGoneOut s after start new) (sym leaves)
    (subst (λ is. HasGoneOut (condition_after condition.Open result) is start new) (sym grows)
    (responded wants input inputs now result start old new (subst (λ l. Responds wants (handled input l) result now old new) line responds) (subst (λ s. HasGoneOut s inputs start old) is has)))

-- ---- the greeting

first_written : (done : Result (Unit {0}) Failed) (inputs : List Input) (start old new : Output) → Writes done (greeting ∷ []) old new → HasGoneOut condition.New inputs start old → HasGoneOut (condition_after condition.Open (answered done)) inputs start new
first_written (Ok tt) inputs start old new wrote (none, same) =
    subst (λ is. HasGoneOut condition.Open is start new) (sym none) (subst (λ (o : Output). Wrote (octets_of (greeting ∷ [])) o new) same wrote)
first_written (Err e) inputs start old new failed (none, same) =
    subst (λ is. HasGoneOut condition.WriteFault is start new) (sym none) (0, no_farewell (frames_of []) start new (subst (λ (o : Output). FailedWithin (octets_of (greeting ∷ [])) o new) same failed))

pub greeted_out : (done : Result (Unit {0}) Failed) (was next : Condition) (inputs : List Input) (answer : Result (Unit {0}) WireFaultOut) (start old new : Output) → was ≡ condition.New → Writes done (greeting ∷ []) old new → answer ≡ answered done → next ≡ condition_after condition.Open answer → HasGoneOut was inputs start old → HasGoneOut next inputs start new
greeted_out done was next inputs answer start old new is writes says leaves has =
    subst (λ s. HasGoneOut s inputs start new) (sym (leaves ∙ ap (condition_after condition.Open) says))
    (first_written done inputs start old new writes (subst (λ s. HasGoneOut s inputs start old) is has))

-- ---- the end

none_within : (old new : Output) → FailedWithin [] old new → ⊥
none_within old new (n, less, last) = absurd (omega (arith, less))

ended_ungreeted : (done : Result (Unit {0}) Failed) (code : ℕ) (start new : Output) → Writes done (behind_greeting (farewell code first_line)) start new → HasGoneOut (condition_after condition.Finished (answered done)) [] start new
ended_ungreeted (Ok tt) zero start new wrote = inl (wrote ∙ unchanged start)
  where
    unchanged : (o : Output) → record { taken = o.taken ++ []; faults = o.faults } ≡ o
    unchanged o = ap (λ (os : List ℕ). let it : Output = record { taken = os; faults = o.faults } in it) (append-nil o.taken)
ended_ungreeted (Ok tt) (suc code) start new wrote = inr (suc code, wrote)
ended_ungreeted (Err e) zero start new failed = absurd (none_within start new failed)
ended_ungreeted (Err e) (suc code) start new failed = (suc code, failed)

ended_open : (done : Result (Unit {0}) Failed) (code : ℕ) (inputs : List Input) (start old new : Output) → Writes done (farewell code (line_after first_line inputs)) old new → HasGoneOut condition.Open inputs start old → HasGoneOut (condition_after condition.Finished (answered done)) inputs start new
ended_open (Ok tt) code inputs start old new wrote has = inr (code, output_ends inputs code start old new has wrote)
ended_open (Err e) code inputs start old new failed has = (code, output_breaks inputs code start old new has failed)

ended : (done : Result (Unit {0}) Failed) (code : ℕ) (was : Condition) (line : Line) (inputs : List Input) (start old new : Output) → is_closed was ≡ false → IsFolded was line inputs → Writes done (last_frames was code line) old new → HasGoneOut was inputs start old → HasGoneOut (condition_after condition.Finished (answered done)) inputs start new
ended done code condition.New line inputs start old new live folded writes (none, same) =
    let first : line ≡ first_line = folded ∙ ap (λ is. line_after first_line is) none in
    subst (λ is. HasGoneOut (condition_after condition.Finished (answered done)) is start new) (sym none)
    (ended_ungreeted done code start new (subst (λ (o : Output). Writes done (behind_greeting (farewell code first_line)) o new) same (subst (λ l. Writes done (behind_greeting (farewell code l)) old new) first writes)))
ended done code condition.Open line inputs start old new live folded writes has =
    ended_open done code inputs start old new (subst (λ l. Writes done (farewell code l) old new) folded writes) has
ended done code condition.Finished line inputs start old new live folded writes has = absurd cc
ended done code condition.WriteFault line inputs start old new live folded writes has = absurd cc
ended done code condition.NoMemory line inputs start old new live folded writes has = absurd cc

pub ended_out : (done : Result (Unit {0}) Failed) (code : ℕ) (was next : Condition) (line : Line) (inputs : List Input) (answer : Result (Unit {0}) WireFaultOut) (start old new : Output) → is_closed was ≡ false → IsFolded was line inputs → Writes done (last_frames was code line) old new → answer ≡ answered done → next ≡ condition_after condition.Finished answer → HasGoneOut was inputs start old → HasGoneOut next inputs start new
ended_out done code was next line inputs answer start old new live folded writes says leaves has =
    subst (λ s. HasGoneOut s inputs start new) (sym (leaves ∙ ap (condition_after condition.Finished) says))
    (ended done code was line inputs start old new live folded writes has)
