-- What a call is given, in numbers.
use Rattle.std.specs.Prelude.{ℕ, ◌^◌, ◌<◌, Bool, false}
use Rattle.h2_events.specs.declared.event.RecvEvent.{RecvEvent}
use Rattle.h2_events.specs.declared.event.RecvEvent.TheVariants as event
use Rattle.h2_events.specs.declared.said.Said.TheVariants as said
use Rattle.h2_send.specs.Inputs.{Input, Event, Speech}

-- What the call was: an event that was acted on, a piece, a status, the end of the connection, or that with which the wire was put
-- behind its lock.
pub data Kind : Type 0 where
  Beginning : Kind
  Settings : Kind
  SettingsAck : Kind
  Ping : Kind
  Window : Kind
  Call : Kind
  TooLong : Kind
  Data : Kind
  Trailers : Kind
  Reset : Kind
  StreamFault : Kind
  GoAway : Kind
  Message : Kind
  Finish : Kind
  Status : Kind
  End : Kind

-- the kind, the flag, the stream and the number of a call
abbrev pub Parts : Type 0
Parts = Kind × Bool × ℕ × ℕ

abbrev pub event_parts : RecvEvent → Parts
event_parts (event.Settings initial resizes) = (Settings, resizes, 0, initial)
event_parts event.SettingsAck = (SettingsAck, false, 0, 0)
event_parts (event.Ping octets) = (Ping, false, 0, octets)
event_parts (event.Window stream by) = (Window, false, stream, by)
event_parts (event.Call stream headers ends) = (Call, ends, stream, 0)
event_parts (event.TooLong stream) = (TooLong, false, stream, 0)
event_parts (event.Piece stream octets size ends) = (Data, ends, stream, size)
event_parts (event.Trailers stream) = (Trailers, false, stream, 0)
event_parts (event.Reset stream) = (Reset, false, stream, 0)
event_parts (event.StreamFault stream code) = (StreamFault, false, stream, code)
event_parts event.GoAway = (GoAway, false, 0, 0)

abbrev pub input_parts : Input → Parts
input_parts (Event event) = event_parts event
input_parts (Speech stream (said.Message octets)) = (Message, false, stream, 0)
input_parts (Speech stream (said.Finish refusal)) = (Finish, false, stream, 0)
input_parts (Speech stream (said.Status status)) = (Status, false, stream, status)

-- the stream and the number have the bits of their types
abbrev pub FitTypes : Parts → Type 0
FitTypes parts = (parts.2 < 2 ^ 32) × (parts.3 < 2 ^ 64)
