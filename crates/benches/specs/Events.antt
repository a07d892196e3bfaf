-- The checksum of events of a connection.
use Rattle.std.specs.Prelude.{ℕ, ◌+◌}
use Rattle.h2_events.specs.declared.event.RecvEvent.{RecvEvent}
use Rattle.h2_events.specs.declared.event.RecvEvent.TheVariants as event
use Rattle.benches.specs.Checksum.{added}

-- the octets of a PING as a number, an increment, or how many octets of DATA; 1 for any other event
abbrev pub value_of : RecvEvent → ℕ
value_of (event.Ping octets) = octets
value_of (event.Window stream by) = by
value_of (event.Piece stream octets size ends) = size
value_of _ = 1

abbrev pub with_event : ℕ → RecvEvent → ℕ
with_event before event = added before (value_of event)
