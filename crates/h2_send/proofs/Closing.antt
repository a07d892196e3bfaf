-- What a call makes of a wire, from what it made of the connection and the sink.
use Rattle.std.proofs.Common.{◌≡◌, Bool, true, false, ℕ, zero, suc, List, [], ◌∷◌, ◌++◌, map, Result, Ok, Err, refl, sym, ap, ◌∙◌, subst}
use Rattle.std.specs.Prelude.{nat_eq}
use Rattle.std.specs.Result.{IsErrAnd}
use Rattle.std.proofs.lemmas.List.Concat.{flat_map-append}
use Rattle.environment.specs.Output.{Output, FailedWithin}
use Rattle.environment.specs.declared.streams.Failed.{Failed}
use Rattle.h2_frame.specs.Frames.{Frame}
use Rattle.h2_windows.specs.Control.{greeting}
use Rattle.h2_windows.specs.Written.{octets_of, spelled, Writes}
use Rattle.h2_events.specs.declared.port.Ready.TheVariants.{Free}
use Rattle.h2_send.specs.Inputs.{Input, input_of}
use Rattle.h2_send.specs.declared.given.Given.{Given}
use Rattle.h2_send.specs.Lines.{Line, first_line}
use Rattle.h2_send.specs.Acting.{Acted, handled}
use Rattle.h2_send.specs.Orders.{line_after}
use Rattle.h2_send.specs.Conditions.{condition_after, answered, is_closed, readiness}
use Rattle.h2_send.specs.Farewells.{farewell}
use Rattle.h2_send.specs.Wires.{WireView, Does, Responds, IsFolded, behind_greeting}
use Rattle.h2_send.specs.declared.condition.Condition.{Condition}
use Rattle.h2_send.specs.declared.condition.Condition.TheVariants as condition
use Rattle.h2_send.specs.declared.fault.WireFaultOut.{WireFaultOut}
use Rattle.h2_send.specs.declared.fault.WireFaultOut.TheVariants as fault

-- memory was wanting before anything was written
pub starved : (wants : Bool) (a : Acted) (line : Line) (old new : Output) (result : Result (Unit {0}) WireFaultOut) → IsErrAnd result (λ e. e ≡ fault.NoMemory) → wants ≡ true → new ≡ old → Responds wants a result line old new
starved wants a line old new (Ok x) is may same = absurd is
starved wants a line old new (Err e) is may same = subst (λ f. Responds wants a (Err f) line old new) (sym is) (may, same)

-- a write failed
pub unwritten : (wants : Bool) (a : Acted) (line : Line) (old new : Output) (result : Result (Unit {0}) WireFaultOut) → IsErrAnd result (λ e. e ≡ fault.WriteFault) → FailedWithin (octets_of a.frames) old new → Responds wants a result line old new
unwritten wants a line old new (Ok x) is failed = absurd is
unwritten wants a line old new (Err e) is failed = subst (λ f. Responds wants a (Err f) line old new) (sym is) failed

pub line_after_one : (line : Line) (inputs : List Input) (input : Input) → line_after line (inputs ++ input ∷ []) ≡ (handled input (line_after line inputs)).line
line_after_one line [] input = refl
line_after_one line (i ∷ inputs) input = line_after_one (handled i line).line inputs input

-- what a call does, where the wire has this behind it
pub does : {S : Type 0} (seen : S → Output) (wants : Bool) (next : Condition) (more given : List Input) (a : Acted) (old : WireView S) (result : Result (Unit {0}) WireFaultOut) (sink : S) (line : Line) (state : Condition) → given ≡ old.inputs ++ more → state ≡ condition_after next result → Responds wants a result line (seen old.sink) (seen sink) → Does seen wants next more a result old (record { sink = sink; line = line; inputs = given; condition = state; port = old.port })
does {S} seen wants next more given a old (Ok tt) sink line state grows is (wrote, same) = (wrote, ap (λ l. let w : WireView S = record { sink = sink; line = l; inputs = given; condition = state; port = old.port } in w) same ∙ ap (λ h. let w : WireView S = record { sink = sink; line = a.line; inputs = h; condition = state; port = old.port } in w) grows ∙ ap (λ c. let w : WireView S = record { sink = sink; line = a.line; inputs = old.inputs ++ more; condition = c; port = old.port } in w) is)
does {S} seen wants next more given a old (Err fault.WriteFault) sink line state grows is failed = (failed, grows, is, refl)
does {S} seen wants next more given a old (Err fault.NoMemory) sink line state grows is (may, same) = (may, same, grows, is, refl)
does {S} seen wants next more given a old (Err fault.Overflow) sink line state grows is never = absurd never

-- what is written without taking memory
pub answers : (done : Result (Unit {0}) Failed) (frames : List Frame) (line : Line) (old new : Output) → Writes done frames old new → Responds false (record { frames = frames; line = line }) (answered done) line old new
answers (Ok tt) frames line old new wrote = (wrote, refl)
answers (Err e) frames line old new failed = failed

-- a line that is what the inputs make of the first one, however the wire is
pub any_folded : (state : Condition) (line : Line) (inputs : List Input) → line ≡ line_after first_line inputs → IsFolded state line inputs
any_folded condition.New line inputs is = is
any_folded condition.Open line inputs is = is
any_folded condition.Finished line inputs is = tt
any_folded condition.WriteFault line inputs is = tt
any_folded condition.NoMemory line inputs is = tt

pub open_line : (state : Condition) (line : Line) (inputs : List Input) → state ≡ condition.Open → IsFolded state line inputs → line ≡ line_after first_line inputs
open_line state line inputs is folded = subst (λ s. IsFolded s line inputs) is folded

pub new_line : (state : Condition) (line : Line) (inputs : List Input) → state ≡ condition.New → IsFolded state line inputs → line ≡ line_after first_line inputs
new_line state line inputs is folded = subst (λ s. IsFolded s line inputs) is folded

-- while a wire isn't closed
pub live_line : (state : Condition) (line : Line) (inputs : List Input) → is_closed state ≡ false → IsFolded state line inputs → line ≡ line_after first_line inputs
live_line condition.New line inputs is folded = folded
live_line condition.Open line inputs is folded = folded
live_line condition.Finished line inputs is folded = absurd cc
live_line condition.WriteFault line inputs is folded = absurd cc
live_line condition.NoMemory line inputs is folded = absurd cc

one_more : (wants : Bool) (input : Input) (before now : Line) (inputs : List Input) (result : Result (Unit {0}) WireFaultOut) (old new : Output) → before ≡ line_after first_line inputs → Responds wants (handled input before) result now old new → IsFolded (condition_after condition.Open result) now (inputs ++ input ∷ [])
one_more wants input before now inputs (Ok tt) old new is (wrote, line) = line ∙ ap (λ l. (handled input l).line) is ∙ sym (line_after_one first_line inputs input)
one_more wants input before now inputs (Err fault.WriteFault) old new is failed = tt
one_more wants input before now inputs (Err fault.NoMemory) old new is failed = tt
one_more wants input before now inputs (Err fault.Overflow) old new is never = absurd never

-- the line stays what the inputs make of the first one
pub folds : (wants : Bool) (input : Input) (was next : Condition) (before now : Line) (inputs after : List Input) (result : Result (Unit {0}) WireFaultOut) (old new : Output) → was ≡ condition.Open → IsFolded was before inputs → Responds wants (handled input before) result now old new → next ≡ condition_after condition.Open result → after ≡ inputs ++ input ∷ [] → IsFolded next now after
folds wants input was next before now inputs after result old new is folded responds leaves grows =
    subst (λ s. IsFolded s now after) (sym leaves) (subst (λ is. IsFolded (condition_after condition.Open result) now is) (sym grows) (one_more wants input before now inputs result old new (open_line was before inputs is folded) responds))

-- one input more is noted
pub grown : (given : List Given) (more : Given) (now : List Given) → now ≡ given ++ more ∷ [] → map input_of now ≡ map input_of given ++ input_of more ∷ []
grown given more now is = ap (map input_of) is ∙ joined given
  where
    joined : (before : List Given) → map input_of (before ++ more ∷ []) ≡ map input_of before ++ input_of more ∷ []
    joined [] = refl
    joined (g ∷ before) = ap (λ is. input_of g ∷ is) (joined before)

-- where something can be said the wire is open
pub free_open : (state : Condition) (id : ℕ) (line : Line) → readiness state id line ≡ Free → state ≡ condition.Open
free_open condition.New id line is = absurd cc
free_open condition.Open id line is = refl
free_open condition.Finished id line is = absurd cc
free_open condition.WriteFault id line is = absurd cc
free_open condition.NoMemory id line is = absurd cc

-- the greeting before what is written last
pub greeting_first : (code : ℕ) (line : Line) → nat_eq code 0 ≡ false → octets_of (behind_greeting (farewell code line)) ≡ octets_of (greeting ∷ []) ++ octets_of (farewell code line)
greeting_first zero line some = absurd cc
greeting_first (suc code) line some = flat_map-append spelled (greeting ∷ []) (farewell (suc code) line)
