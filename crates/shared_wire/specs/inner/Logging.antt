-- What is noted of a call, as its record.
use Rattle.std.specs.Prelude.{ℕ, List, [], ◌∷◌, ◌++◌, map, Result, Err}
use Rattle.environment.specs.Output.{Output}
use Rattle.h2_send.specs.Inputs.{input_of}
use Rattle.h2_send.specs.Accepting.{IsAccepted}
use Rattle.h2_send.specs.Port.{Progress, line_of}
use Rattle.h2_send.specs.declared.given.Given.{Given}
use Rattle.h2_send.specs.declared.condition.Condition.{Condition}
use Rattle.h2_send.specs.declared.fault.WireFaultOut.{WireFaultOut}
use Rattle.h2_send.specs.declared.fault.WireFaultOut.TheVariants as fault
use Rattle.h2_events.specs.declared.port.Took.{Took}
use Rattle.h2_events.specs.declared.port.Took.TheVariants as took
use Rattle.h2_send.specs.Wires.{WireView, progress_of}
use Rattle.h2_send.specs.declared.condition.Condition.TheVariants as condition
use Rattle.shared_wire.specs.Records.{Deed, WireRecord}
use Rattle.shared_wire.specs.Records as deed
use Rattle.shared_wire.specs.declared.log.Noted.{Noted}
use Rattle.shared_wire.specs.declared.log.Noted.TheVariants as noted
use Rattle.shared_wire.specs.declared.log.LogEntry.{LogEntry}

abbrev pub deed_of : Noted → Deed
deed_of noted.Began = deed.Began
deed_of (noted.Gave given) = deed.Gave (input_of given)
deed_of (noted.Lost given) = deed.Gave (input_of given)
deed_of (noted.Refused given) = deed.Refused (input_of given)
deed_of (noted.Ended code) = deed.Ended code
deed_of (noted.Starved given) = deed.Starved (input_of given)

-- What was lost was given, but the wire had nothing of it. Memory was wanting where there was no room but the last.
abbrev pub left_by : Noted → Progress → Progress
left_by (noted.Lost given) at =
    record at { inputs = at.inputs ++ input_of given ∷ []; condition = condition.NoMemory }
left_by (noted.Starved given) at = record at { condition = condition.NoMemory }
left_by other at = at

-- what is noted of an event, and of a status, by what became of it
abbrev pub acted_so : Given → Result (Unit {0}) WireFaultOut → Noted
acted_so given (Err fault.Overflow) = noted.Refused given
acted_so given done = noted.Gave given

abbrev pub stated_so : Given → Took → Noted
stated_so given took.Busy = noted.Refused given
stated_so given took.Gone = noted.Refused given
stated_so given answer = noted.Gave given

-- how what is said leaves an open wire
abbrev pub condition_by : Took → Condition
condition_by took.WriteFault = condition.WriteFault
condition_by took.NoMemory = condition.NoMemory
condition_by answer = condition.Open

-- what can be noted where there is no room but the last, and the record of it
abbrev pub Loses : Noted → Progress → Type 0
Loses (noted.Lost given) at = IsAccepted (input_of given) (line_of at)
Loses (noted.Starved given) at = Unit {0}
Loses other at = ⊥

abbrev pub starved_record : ℕ → Noted → Progress → WireRecord
starved_record author noted at =
    record { author = author; deed = deed_of noted; left = left_by noted at }

module _ {S : Type 0} where
  abbrev pub record_of : (S → Output) → LogEntry (WireView S) → WireRecord
  record_of seen entry = record {
    author = entry.author;
    deed = deed_of entry.deed;
    left = left_by entry.deed (progress_of seen entry.left.value);
  }

  abbrev pub records_of : (S → Output) → List (LogEntry (WireView S)) → List WireRecord
  records_of seen entries = map (record_of seen) entries
