-- Whether a wire still writes, what it answers then, and on which streams something can be said.
use Rattle.std.specs.Prelude.{ℕ, Bool, true, false, Result, Ok, Err}
use Rattle.environment.specs.declared.streams.Failed.{Failed}
use Rattle.h2_events.specs.declared.port.Took.{Took}
use Rattle.h2_events.specs.declared.port.Took.TheVariants as took
use Rattle.h2_events.specs.declared.port.Ready.{Ready}
use Rattle.h2_events.specs.declared.port.Ready.TheVariants as ready
use Rattle.h2_send.specs.Offers.{ready_on}
use Rattle.h2_send.specs.Lines.{Line}
use Rattle.h2_send.specs.declared.condition.Condition.{Condition}
use Rattle.h2_send.specs.declared.condition.Condition.TheVariants as condition
use Rattle.h2_send.specs.declared.fault.WireFaultOut.{WireFaultOut}
use Rattle.h2_send.specs.declared.fault.WireFaultOut.TheVariants as fault

-- nothing is written any more
abbrev pub IsClosed : Condition → Type 0
IsClosed condition.New = ⊥
IsClosed condition.Open = ⊥
IsClosed _ = Unit {0}

-- the test of it
abbrev pub is_closed : Condition → Bool
is_closed condition.New = false
is_closed condition.Open = false
is_closed _ = true

-- what is answered by a wire that isn't open
abbrev pub answer_of : Condition → Result (Unit {0}) WireFaultOut
answer_of condition.WriteFault = Err fault.WriteFault
answer_of condition.NoMemory = Err fault.NoMemory
answer_of _ = Ok tt

-- what a call leaves of an open wire, where this follows on Ok
abbrev pub condition_after : Condition → Result (Unit {0}) WireFaultOut → Condition
condition_after next (Ok tt) = next
condition_after next (Err fault.WriteFault) = condition.WriteFault
condition_after next (Err fault.NoMemory) = condition.NoMemory
condition_after next (Err fault.Overflow) = condition.Open

-- what becomes of a piece that is taken
abbrev pub took_of : Result (Unit {0}) WireFaultOut → Took
took_of (Ok tt) = took.Taken
took_of (Err fault.WriteFault) = took.WriteFault
took_of (Err fault.NoMemory) = took.NoMemory
took_of (Err fault.Overflow) = took.Gone

-- what a call answers of a sink
abbrev pub answered : Result (Unit {0}) Failed → Result (Unit {0}) WireFaultOut
answered (Ok tt) = Ok tt
answered (Err e) = Err fault.WriteFault

-- Whether something can be said on a stream: only while the wire is open.
abbrev pub readiness : Condition → ℕ → Line → Ready
readiness condition.Open id line = ready_on id line.streams
readiness _ id line = ready.Gone
