-- The sending half of a connection as a session uses it, and what others who have ports to it do between two of its calls.
use Rattle.std.specs.Prelude.{◌≡◌, ◌⊎◌, ℕ, ◌==◌, ◌≤◌, length, true, false, if◌then◌else◌, List, [], ◌∷◌, ◌++◌, map, Option, Some, Result, Ok, Err, IfErr}
use Rattle.environment.specs.Output.{Wrote, FailedWithin}
use Rattle.h2_frame.specs.ErrorCodes.{flow_control_error}
use Rattle.h2_windows.specs.Written.{octets_of}
use Rattle.h2_events.specs.declared.event.RecvEvent.{RecvEvent}
use Rattle.h2_events.specs.declared.port.Ready.{Ready}
use Rattle.h2_events.specs.declared.port.Took.{Took}
use Rattle.h2_events.specs.declared.port.Took.TheVariants as took
use Rattle.h2_events.specs.declared.said.Said.{Said}
use Rattle.h2_send.specs.Accepting.{IsAccepted}
use Rattle.h2_send.specs.Conditions.{IsClosed, answer_of, took_of}
use Rattle.h2_send.specs.Farewells.{farewell}
use Rattle.h2_send.specs.Inputs.{Input, Event, Speech}
use Rattle.h2_send.specs.Lines.{overflows}
use Rattle.h2_send.specs.Port.{Progress, Takes, line_of, ready_in}
use Rattle.h2_send.specs.declared.condition.Condition.TheVariants as condition
use Rattle.h2_send.specs.declared.fault.WireFaultOut.{WireFaultOut}
use Rattle.h2_send.specs.declared.fault.WireFaultOut.TheVariants as fault

-- ---- others

-- These inputs were given, each to a sending half that was open, and where it was accepted.
abbrev pub Gives : List Input → Progress → Progress → Type 0
Gives [] old new = new ≡ old
Gives (input ∷ inputs) old new =
    (old.condition ≡ condition.Open) × IsAccepted input (line_of old)
    × (answer : Took) × (next : Progress) × Takes answer input old next × Gives inputs next new

-- What contracts see of the ports of a sending half: which sending half it is, what others did so far, in order, and what the session
-- did. Some of what was given, None for any other thing.
pub record WireHistory : Type 0 where
  pub name : List ℕ
  pub others : List (Option Input)
  pub own : List (Option Input)

-- no less was done by others, at the same sending half
pub record HasGrown (before after : WireHistory) : Type 0 where
  pub name : after.name ≡ before.name
  pub did : List (Option Input)
  pub told : after.others ≡ before.others ++ did

-- what these say on a stream
abbrev pub spoken : ℕ → List (Option Input) → List Said
spoken stream [] = []
spoken stream (Some (Speech other said) ∷ done) =
    if other == stream then said ∷ spoken stream done else spoken stream done
spoken stream (other ∷ done) = spoken stream done

-- the session itself said nothing
abbrev pub SaysNothing : WireHistory → WireHistory → Type 0
SaysNothing before after = (stream : ℕ) → spoken stream after.own ≡ spoken stream before.own

-- nothing but on this stream
abbrev pub SaysThere : ℕ → WireHistory → WireHistory → Type 0
SaysThere on before after =
    (stream : ℕ) → (on == stream) ≡ false → spoken stream after.own ≡ spoken stream before.own

-- A call finds the sending half as others left it: where all that they did was to give it inputs, as these leave it.
pub record Finds (before after : List (Option Input)) (old found : Progress) : Type 0 where
  pub did : List (Option Input)
  pub told : after ≡ before ++ did
  pub gave : (inputs : List Input) → did ≡ map Some inputs → Gives inputs old found

-- What a call does where it finds the sending half open. Where it finds it closed, nothing is done, and this is told of it.
pub record DoesWhereOpen (before after : List (Option Input)) (old new : Progress)
    (Does : Progress → Progress → Type 0) (Tells : Result (Unit {0}) WireFaultOut → Type 0)
    : Type 0 where
  pub found : Progress
  pub finds : Finds before after old found
  pub does : found.condition ≡ condition.Open → Does found new
  pub tells : IsClosed found.condition → (new ≡ found) × Tells (answer_of found.condition)

-- ---- what calls do

-- whether something can be said on a stream
abbrev pub Reads : ℕ → Result Ready WireFaultOut → Progress → Progress → Type 0
Reads stream answer found new = (answer ≡ Ok (ready_in stream found)) × (new ≡ found)

-- it was given these inputs, and perhaps one more
abbrev pub IsOneMore : List Input → Progress → Type 0
IsOneMore inputs at = (lost : List Input) × (at.inputs ≡ inputs ++ lost) × (length lost ≤ 1)

-- Memory is wanting, and nothing more goes out. One thing more may have been given, which is lost.
abbrev pub Starves : Progress → Progress → Type 0
Starves found new =
    (new.output ≡ found.output) × (new.condition ≡ condition.NoMemory)
    × IsOneMore found.inputs new

-- the connection ends
abbrev pub Closes : ℕ → Result (Unit {0}) WireFaultOut → Progress → Progress → Type 0
Closes code (Ok tt) found new =
    Wrote (octets_of (farewell code (line_of found))) found.output new.output
    × (new.inputs ≡ found.inputs) × (new.condition ≡ condition.Finished)
Closes code (Err fault.WriteFault) found new =
    FailedWithin (octets_of (farewell code (line_of found))) found.output new.output
    × (new.inputs ≡ found.inputs) × (new.condition ≡ condition.WriteFault)
Closes code (Err _) found new = ⊥

-- the event would take a window above 2^31 - 1, and the connection ends with its error (RFC 9113 section 6.9.1)
abbrev pub ClosesFor : RecvEvent → Result (Unit {0}) WireFaultOut → Progress → Progress → Type 0
ClosesFor event done found new =
    (overflows event (line_of found) ≡ true) × Closes flow_control_error done found new

-- an event is acted on
abbrev pub Acts : RecvEvent → Result (Unit {0}) WireFaultOut → Progress → Progress → Type 0
Acts event (Ok tt) found new =
    IsAccepted (Event event) (line_of found) × Takes took.Taken (Event event) found new
Acts event (Err fault.Overflow) found new = ClosesFor event (Ok tt) found new
Acts event (Err fault.WriteFault) found new =
    (IsAccepted (Event event) (line_of found) × Takes took.WriteFault (Event event) found new)
    ⊎ ClosesFor event (Err fault.WriteFault) found new
Acts event (Err fault.NoMemory) found new = Starves found new

-- Something is said on a stream. Busy and Gone come where it isn't accepted alone.
abbrev pub Says : ℕ → Said → Took → Progress → Progress → Type 0
Says stream said took.Taken found new =
    IsAccepted (Speech stream said) (line_of found)
    × Takes took.Taken (Speech stream said) found new
Says stream said took.WriteFault found new =
    IsAccepted (Speech stream said) (line_of found)
    × Takes took.WriteFault (Speech stream said) found new
Says stream said took.NoMemory found new = Starves found new
Says stream said _ found new =
    (IsAccepted (Speech stream said) (line_of found) → ⊥) × (new ≡ found)

-- ---- what is told by a call that finds it closed

-- what became of a piece, where the fault that closed the sending half before is told in its place
abbrev pub told_by : Result Took WireFaultOut → Took
told_by (Ok took) = took
told_by (Err fault) = took_of (Err fault)

abbrev pub TellsDone : Result (Unit {0}) WireFaultOut → Result (Unit {0}) WireFaultOut → Type 0
TellsDone answer done = answer ≡ done

-- the fault that closed it, where it was open before
abbrev pub TellsFault : {T : Type 0} → Progress → Result T WireFaultOut
    → Result (Unit {0}) WireFaultOut → Type 0
TellsFault old answer done =
    old.condition ≡ condition.Open → IfErr done (λ fault. answer ≡ Err fault)

abbrev pub TellsTook : Progress → Took → Result (Unit {0}) WireFaultOut → Type 0
TellsTook old answer done =
    old.condition ≡ condition.Open → IfErr done (λ fault. answer ≡ took_of (Err fault))
